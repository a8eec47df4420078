-- What lists keep, passed on: who stands above needs no other crate for it.
pub use Rattle.hook_lists.specs.declared.kept.Kept.{Kept}
