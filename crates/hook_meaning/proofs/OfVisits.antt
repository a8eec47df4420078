pub mod Heads
pub mod Looks
pub mod Actions
pub mod Names
