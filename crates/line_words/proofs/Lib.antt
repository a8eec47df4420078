pub mod Spelled
pub mod WordParts
pub mod Ranges
pub mod AddressRanges
