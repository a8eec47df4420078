pub mod Layout
pub mod Notes
pub mod Sheets
pub mod Rule
pub mod Kinds
pub mod Calls
pub mod Found
