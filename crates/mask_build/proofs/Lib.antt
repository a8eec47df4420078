pub mod Aside
pub mod Stacking
pub mod Committing
pub mod Standing
pub mod Bringing
