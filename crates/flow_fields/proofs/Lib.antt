pub mod Bits
pub mod Names
pub mod Places
pub mod Puts
pub mod Words
