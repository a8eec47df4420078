pub mod Pairs
pub mod ReadsControls
pub mod ReadsActions
pub mod ReadsLists
pub mod ReadsOptions
pub mod Copies
pub mod ReadsValues
pub mod ReadsFields
pub mod ReadsPrefixes
pub mod ReadsLines
pub mod CleanActions
pub mod CleanFields
pub mod CleanEdits
pub mod Grown
pub mod FieldPlaces
mod Chained
