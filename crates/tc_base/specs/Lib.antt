pub mod Outside
pub mod Counts
pub mod MemShelf
pub mod MemSink
pub mod Memory
pub mod Pieces
pub mod StdSink
pub mod Disk
