pub mod Slots
pub mod Gives
pub mod Opens
pub mod Handed
pub mod Closes
pub mod Leaving
pub mod OfHeadCommits
pub mod OfMoves
