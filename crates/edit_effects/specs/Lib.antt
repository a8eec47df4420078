pub mod OfEffects
pub mod OfMaskAnswers
