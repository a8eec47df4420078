pub mod Among
pub mod Going
pub mod Serials
pub mod Moving
