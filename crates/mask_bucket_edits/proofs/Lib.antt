pub mod Reading
pub mod Buckets
pub mod Among
pub mod Putting
pub mod Ages
pub mod Chains
pub mod Changing
