pub mod Among
pub mod Going
pub mod Stood
pub mod Acting
pub mod Moved
