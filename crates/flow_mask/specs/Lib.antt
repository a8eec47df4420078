pub mod Masks
pub mod Hashes
pub mod Sizes
pub mod Places
