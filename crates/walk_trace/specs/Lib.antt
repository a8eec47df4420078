pub mod Points
pub mod Tallies
pub mod Traces
pub mod Visited
