pub mod Rooms
pub mod Made
pub mod Stepping
pub mod Changed
pub mod Turning
pub mod Names
pub mod Gone
pub mod Counted
mod Said
pub mod OfLedgers
pub mod OfRoots
