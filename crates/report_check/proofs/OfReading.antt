pub mod Cutting
pub mod Ends
pub mod Reading
pub mod PacketParts
pub mod Shown
