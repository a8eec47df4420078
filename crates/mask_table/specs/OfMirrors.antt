pub mod Kept
pub mod Lists
pub mod Given
pub mod Changes
pub mod Linked
pub mod Changing
pub mod Forgetting
