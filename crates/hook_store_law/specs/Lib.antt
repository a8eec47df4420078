pub use Rattle.hook_meaning.specs.Stated
pub use Rattle.hook_meaning.specs.Blocks
pub use Rattle.hook_meaning.specs.Told
pub use Rattle.hook_meaning.specs.Kept
pub use Rattle.hook_meaning.specs.OfEffects
pub use Rattle.hook_meaning.specs.OfMaskAnswers
pub use Rattle.hook_meaning.specs.OfEdits
pub use Rattle.hook_meaning.specs.OfVisits
