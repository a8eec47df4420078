pub mod Looked
pub mod Prefs
pub mod Needed
