pub mod Questions
pub mod Heads
pub mod Answers
pub mod Steps
pub mod Walks
pub mod Plain
pub mod OfPoints
