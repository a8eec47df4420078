pub mod Inserting
pub mod Leaving
pub mod Sent
pub mod Telling
pub mod Showing
pub mod Editing
pub mod Standing
pub mod Untouched
