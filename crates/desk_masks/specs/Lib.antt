pub mod Masks
pub mod Tables
pub mod OfFilterCommits
pub mod OfHeadChains
pub mod OfMaskResizes
pub mod OfResizes
