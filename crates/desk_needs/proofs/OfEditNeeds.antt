pub mod Counted
pub mod Added
pub mod Moved
pub mod Gone
pub mod Behind
