pub mod Lines
pub mod Counts
pub mod Buffers
pub mod Places
pub mod Tails
pub mod Pages
pub mod Counting
pub mod Heads
