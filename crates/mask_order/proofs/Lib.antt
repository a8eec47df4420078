pub mod Orders
pub mod Buckets
pub mod ChainsRead
pub mod Placing
pub mod KeptChains
pub mod Records
pub mod OneList
