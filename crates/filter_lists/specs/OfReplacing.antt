pub mod Replacements
pub mod Planning
pub mod Changing
