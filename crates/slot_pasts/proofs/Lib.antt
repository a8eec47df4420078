pub mod Found
pub mod Entries
pub mod Next
