pub mod Worked
pub mod OfWalks
pub mod OfLogs
pub mod OfPoints
