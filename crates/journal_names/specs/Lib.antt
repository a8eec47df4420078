pub mod Known
pub mod Decided
