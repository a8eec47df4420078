pub mod Draws
pub mod Met
