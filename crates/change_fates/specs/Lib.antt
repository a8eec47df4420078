pub mod Tags
pub mod Texts
pub mod Views
pub mod Told
pub mod Foreseen
pub mod Knowing
pub mod Paging
pub mod Passed
