pub mod Placed
pub mod Replays
pub mod Passed
