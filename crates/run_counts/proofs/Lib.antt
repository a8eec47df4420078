pub mod Tallies
pub mod OfShortWalks
