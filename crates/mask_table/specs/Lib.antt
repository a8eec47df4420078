pub mod Buckets
pub mod Told
pub mod OfMirrors
