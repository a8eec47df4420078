pub mod Outputs
pub mod Puts
pub mod Ready
