pub mod Start
pub mod Made
pub mod Gone
pub mod Registries
pub mod Planned
pub mod Stepping
pub mod Families
pub mod Counted
pub mod OfRemoving
pub mod OfAdding
pub mod OfReplacing
mod OpenSeats
