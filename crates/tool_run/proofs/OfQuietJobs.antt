pub mod Applied
pub mod Replayed
pub mod Counted
pub mod QuietRuns
