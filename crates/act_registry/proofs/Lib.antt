pub mod OnePlace
pub mod Counts
pub mod Order
pub mod Serials
pub mod Index
pub mod Changes
pub mod Calls
pub mod Lowest
mod Spare
