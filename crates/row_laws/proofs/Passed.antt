-- That order is left as it was where the states are the same, passed on.
pub use Rattle.state_laws.proofs.OfOrder.Same.{any_same, filter_same, order_same}
pub use Rattle.state_laws.proofs.OfOrder.Soundness.{sound_same}
