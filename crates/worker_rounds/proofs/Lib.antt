pub mod Recorded
pub mod Further
pub mod OfWalks
pub mod OfLogs
pub mod OfPoints
