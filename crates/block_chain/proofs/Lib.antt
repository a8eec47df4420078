pub mod Chains
pub mod Ways
pub mod Still
