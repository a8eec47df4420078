-- What lists spell, passed on: who stands above needs no other crate for it.
pub use Rattle.filter_lists.specs.Spells.{Spells}
