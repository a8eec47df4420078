pub mod OfEditNeeds
pub mod OfLiveCounts
pub mod OfRoom
