pub mod Broken
pub mod Holdings
pub mod Failures
