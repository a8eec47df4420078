pub mod Standing
pub mod Halves
pub mod Filtering
pub mod Tabling
pub mod Masking
pub mod Giving
pub mod Acting
pub mod OfReadings
