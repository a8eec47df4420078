pub mod Put
pub mod Dropped
pub mod Gone
