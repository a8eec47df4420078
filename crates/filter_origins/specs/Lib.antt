pub mod Entries
pub mod Brought
pub mod Origins
pub mod Noted
pub mod Knows
pub mod Passed
