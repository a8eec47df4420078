pub mod Cells
pub mod Noting
pub mod Sound
pub mod Pinning
pub mod Laying
pub mod Keeping
pub mod Inside
pub mod Beginning
