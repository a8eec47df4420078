pub mod Blocks
pub mod Pools
