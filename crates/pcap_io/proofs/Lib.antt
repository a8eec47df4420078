pub mod Stand
pub mod Places
pub mod Spelled
pub mod Stretches
pub mod Faults
pub mod Unique
