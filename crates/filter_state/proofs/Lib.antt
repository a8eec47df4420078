pub mod Pairs
pub mod Places
pub mod Free
pub mod Times
