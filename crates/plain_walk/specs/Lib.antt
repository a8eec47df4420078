pub mod Walked
pub mod Courses
pub mod Seen
pub mod Lookups
pub mod Runs
pub mod Ends
pub mod Places
