pub mod Masks
pub mod Telling
pub mod Shown
pub mod Standing
