pub mod Lines
pub mod Reached
pub mod Passed
