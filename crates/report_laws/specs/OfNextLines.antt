pub mod Left
pub mod Walks
