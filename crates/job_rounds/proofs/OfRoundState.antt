pub mod Counts
pub mod Answering
pub mod Turning
pub mod Begun
