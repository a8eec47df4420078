pub mod Listed
pub mod Raised
pub mod Given
pub mod Built
