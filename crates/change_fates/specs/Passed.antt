-- What a change is, passed on: who stands above needs no other crate for it.
pub use Rattle.change_lines.specs.Passed.{Changed, IsChanged}
pub use Rattle.change_lines.specs.Lines.{refused_in}
