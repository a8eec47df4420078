pub mod KeyWords
pub mod FieldTexts
pub mod Grown
pub mod Kept
pub mod Stands
pub mod Rooms
pub mod Visited
