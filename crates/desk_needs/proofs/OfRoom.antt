pub mod Sizes
pub mod Totals
pub mod Lines
pub mod Pools
