pub mod OfDeskEdits
pub mod Views
pub mod Short
pub mod Applied
pub mod Begun
pub mod OfBalance
pub mod OfPlans
