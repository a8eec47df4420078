pub mod Metadata
pub mod Tags
pub mod EditedFrame
