pub mod Show
pub mod Refusals
pub mod Steps
pub mod OfShownBatches
