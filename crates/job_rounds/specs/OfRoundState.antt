pub mod Rounds
pub mod Turns
pub use Rattle.shared_hook.specs.Views
