pub mod Desk
pub mod OfWays
pub mod OfFinding
pub mod OfPlainEdits
pub mod OfLineActions
pub mod OfFilterNames
pub mod OfGoneSerials
