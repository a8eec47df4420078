pub mod Commands
pub mod Made
pub mod Runs
pub mod Applied
pub mod Passed
