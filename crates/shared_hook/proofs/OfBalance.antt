pub mod Evens
pub mod Balance
pub mod Anew
pub mod ByKind
pub mod NoFilter
pub mod Coming
pub mod Replaced
pub mod Removed
