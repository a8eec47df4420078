pub mod Over
pub mod Visits
pub mod Answereds
pub mod Lasts
pub mod Latest
pub mod Faults
