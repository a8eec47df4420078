pub mod Captures
pub mod Room
pub mod Adding
pub mod EndWords
