pub mod Staying
pub mod Marks
