pub mod Sums
pub mod Totals
pub mod Recounts
pub mod Changes
pub mod Coming
pub mod Replaced
pub mod Removed
pub mod NoFilter
