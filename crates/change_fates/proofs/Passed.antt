-- Laws of a change, passed on: who stands above needs no other crate for it.
pub use Rattle.change_lines.proofs.Passed.{some_of_changes, one_of_changes}
