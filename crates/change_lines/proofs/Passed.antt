-- Laws of a change and of its answers, passed on.
pub use Rattle.change_fate_laws.proofs.OneChange.{one_of_changes, some_of_changes}
pub use Rattle.change_points.proofs.Answered.{as_states, ways_same}
