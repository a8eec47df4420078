pub mod Rows
pub mod InPlace
pub mod Edits
pub mod Replaced
pub mod Taken
pub mod Searched
pub mod Longer
pub mod OfChanges
