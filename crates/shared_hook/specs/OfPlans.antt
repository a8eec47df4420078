pub mod Done
pub mod Plans
