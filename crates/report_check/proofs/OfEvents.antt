pub mod Parts
pub mod AtLines
pub mod Turning
