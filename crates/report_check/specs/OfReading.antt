pub mod Ends
pub mod Packets
