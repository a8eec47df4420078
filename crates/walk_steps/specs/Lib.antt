pub mod Told
pub mod Standings
pub mod Walking
pub mod Seen
pub mod Stands
