pub mod Entries
pub mod Kept
pub mod Names
pub mod OnePlace
