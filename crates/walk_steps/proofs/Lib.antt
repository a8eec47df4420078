pub mod Drops
pub mod Known
pub mod Visited
pub mod Lookups
pub mod Acts
pub mod Going
pub mod Running
