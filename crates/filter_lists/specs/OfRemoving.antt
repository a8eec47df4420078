pub mod Removals
pub mod Leaving
pub mod Planning
