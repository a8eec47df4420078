pub mod Orders
pub mod Following
pub mod Follows
