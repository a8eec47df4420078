pub mod Planned
pub mod Places
pub mod Going
pub mod Fronts
pub mod Leaves
pub mod OneTaken
pub mod TableOut
pub mod Removing
