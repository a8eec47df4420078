pub mod ActionWords
pub mod FieldWords
pub mod EditWords
pub mod Texts
