pub mod Mapped
pub mod Entries
pub mod Named
pub mod Counts
pub mod Planning
pub mod Free
pub mod Unbound
pub mod Carried
