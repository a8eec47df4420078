pub mod Heads
pub mod Answered
pub mod Found
