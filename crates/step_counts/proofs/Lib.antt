pub mod Views
pub mod Drawing
pub mod Numbers
pub mod EachOnce
pub mod Sums
