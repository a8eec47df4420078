pub mod Live
pub mod Needs
pub mod OfEditNeeds
pub mod OfLiveCounts
