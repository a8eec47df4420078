pub mod Lists
pub mod Fits
pub mod After
pub mod Pooled
pub mod Counting
