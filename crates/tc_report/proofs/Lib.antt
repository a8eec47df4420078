pub mod Bound
pub mod Lines
pub mod Orders
pub mod ShownState
pub mod Slots
