pub mod Edits
pub mod Blocks
