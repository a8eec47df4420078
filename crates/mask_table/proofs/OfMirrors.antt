pub mod Spelling
pub mod Chains
pub mod Keeping
pub mod Lasting
pub mod Dates
pub mod Forgetting
