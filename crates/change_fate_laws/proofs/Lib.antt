pub mod OneChange
pub mod Runs
pub mod Recording
pub mod Together
