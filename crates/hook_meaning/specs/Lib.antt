pub mod Stated
pub mod Blocks
pub mod Told
pub use Rattle.edit_effects.specs.OfEffects
pub use Rattle.edit_effects.specs.OfMaskAnswers
pub mod Kept
pub mod OfEdits
pub mod OfVisits
