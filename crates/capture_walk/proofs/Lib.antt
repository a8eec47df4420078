pub mod Counting
pub mod EndWords
pub mod Walked
