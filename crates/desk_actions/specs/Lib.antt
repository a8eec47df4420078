pub mod Places
pub mod Kinds
pub mod Effects
pub mod OfLedgers
pub mod OfRoots
