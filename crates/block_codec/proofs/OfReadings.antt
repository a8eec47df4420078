pub mod Testing
pub mod Only
pub mod Acting
pub mod Values
pub mod MaskReads
