pub mod Puts
pub mod Rounds
pub mod Finished
pub mod Passed
