pub mod Twice
pub mod Emptied
pub mod Freed
pub mod Whole
