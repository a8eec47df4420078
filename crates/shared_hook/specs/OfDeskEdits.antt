pub mod Ahead
pub mod Taken
pub mod Swaps
pub mod Lines
pub mod Parting
pub mod Goes
pub mod Spent
pub mod OfMoves
