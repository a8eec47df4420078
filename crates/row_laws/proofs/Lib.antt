pub mod OfOrder
pub mod OfLookups
pub mod OfChanges
pub mod Passed
