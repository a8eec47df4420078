pub mod Living
pub mod Apart
pub mod Resizing
