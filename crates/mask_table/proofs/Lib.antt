pub mod Buckets
pub mod Looking
pub mod Limits
pub mod Stamps
pub mod OfMirrors
