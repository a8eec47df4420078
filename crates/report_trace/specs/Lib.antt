pub mod Traced
pub mod Knowing
pub mod Writing
pub mod Rounds
pub mod Passed
pub mod Visited
