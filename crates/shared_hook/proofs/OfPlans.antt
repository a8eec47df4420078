pub mod Enough
pub mod Needing
pub mod Roomy
pub mod Staying
