pub mod Texts
pub mod Walked
