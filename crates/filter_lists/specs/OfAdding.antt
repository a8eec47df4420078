pub mod Arrivals
pub mod Looks
pub mod Seats
pub mod Additions
pub mod Ready
