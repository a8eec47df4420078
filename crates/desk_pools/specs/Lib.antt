pub mod Pools
pub mod Steps
pub mod OfNumbers
pub mod OfTidying
