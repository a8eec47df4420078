pub mod OfOrder
pub mod OfLookups
