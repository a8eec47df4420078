pub mod MetRows
pub mod Looking
pub mod Turns
pub mod Following
