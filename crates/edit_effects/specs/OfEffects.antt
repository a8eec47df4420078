pub mod Parts
pub mod PartCases
pub mod Effects
pub mod EffectCases
