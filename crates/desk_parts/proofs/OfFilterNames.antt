pub mod Storable
pub mod Answering
