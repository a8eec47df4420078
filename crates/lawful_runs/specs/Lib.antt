pub mod Given
pub mod Events
pub mod Points
pub mod Outcomes
pub mod Lawful
pub mod Cases
pub mod WorkedRun
pub mod OfLogs
