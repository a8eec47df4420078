pub mod Rounds
pub mod Hands
pub mod Ends
pub mod Controls
pub mod Numbers
pub mod OfOutcomes
