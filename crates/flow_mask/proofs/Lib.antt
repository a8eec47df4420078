pub mod Ands
pub mod FieldsAndWords
pub mod Places
pub mod SizeFacts
