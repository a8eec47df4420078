pub mod Texts
pub mod CleanWords
