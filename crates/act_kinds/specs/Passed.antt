-- The limits of actions, passed on: who stands above needs no other crate for them.
pub use Rattle.act_registry.specs.declared.limits.TheConstants.{ACTIONS_MAX, MADE_MAX}
