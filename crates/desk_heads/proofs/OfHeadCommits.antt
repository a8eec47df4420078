pub mod Raising
pub mod Prepared
pub mod Places
pub mod Standing
pub mod Giving
