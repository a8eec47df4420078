pub mod Counted
pub mod Readings
pub mod TooMany
