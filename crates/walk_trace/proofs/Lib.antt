pub mod Hooks
pub mod Steps
pub mod Tallies
pub mod Going
pub mod Left
pub mod Walks
