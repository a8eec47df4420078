-- The past of a state, passed on: who stands above needs no other crate for it.
pub use Rattle.state_past.specs.Remembering.{Remembers}
pub use Rattle.state_past.specs.declared.past.StatePast.{StatePast}
