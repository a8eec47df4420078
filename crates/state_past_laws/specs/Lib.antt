pub mod Slots
pub mod Telling
pub mod OfChanges
