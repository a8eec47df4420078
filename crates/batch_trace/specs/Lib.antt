pub mod Accepted
pub mod Traced
pub mod Meeting
pub mod Passed
pub mod Untold
pub mod Kept
