use Rattle.std.proofs.Common.{◌≡◌, ◌≤◌, drop}
use Rattle.filter_state.specs.Actions.{all_unbound}
use Rattle.action_plan.specs.Entries.{actions_of}
use Rattle.action_plan.specs.Bound.{AreBound}
use Rattle.action_plan.proofs.unbinding.unbind_all.Given as goal

abbrev pub invariant-loop-serial : goal.invariant-loop-serial
invariant-loop-serial l = record {
  bound : AreBound (drop l.serial-index l.serials) l.registry.entries;
  same : all_unbound (drop l.serial-index l.serials) (actions_of l.registry.entries) ≡ all_unbound l.serials (actions_of l.fn.registry.entries);
  made : l.registry.made ≡ l.fn.registry.made;
  spare : l.fn.registry.spare ≤ l.registry.spare;
}
