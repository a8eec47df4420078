pub mod RootsOf
pub mod Steps
pub mod Opening
pub mod Several
pub mod OfNumbers
pub mod OfTidying
