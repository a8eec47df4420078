pub mod Meeting
pub mod Passed
