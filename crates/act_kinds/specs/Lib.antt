pub mod Params
pub mod Ranges
pub mod Acts
pub mod Passed
