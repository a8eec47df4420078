pub mod Logged
pub mod Naming
pub mod Placed
