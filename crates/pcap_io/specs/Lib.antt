pub mod Layout
pub mod Places
pub mod Captures
pub mod Written
pub mod Excerpts
