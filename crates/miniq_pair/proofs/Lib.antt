pub mod Putting
pub mod Placing
pub mod Linking
