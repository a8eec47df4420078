pub mod Lines
pub mod Texts
pub mod Hexadecimal
pub mod Numbers
pub mod Groups
pub mod MacAddresses
pub mod Ipv6Addresses
pub mod Addresses
