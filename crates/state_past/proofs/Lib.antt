pub mod Bringing
pub mod Recalled
pub mod Remembered
pub mod Followed
pub mod OfGoneFilters
pub mod Changing
pub mod Finding
pub mod FoundAnswers
