pub mod Next
pub mod NextLines
pub mod Walked
pub mod NextPackets
pub mod NextOutcomes
pub mod HeadOnce
