use Rattle.std.proofs.Common.{◌≡◌, ◌≤◌, ◌+◌}
use Rattle.filter_state.specs.Actions.{first_free, free_index, is_live}
use Rattle.action_plan.specs.Plans.{made_of, carried}
use Rattle.action_plan.proofs.names.free_index.Given as goal

abbrev pub invariant-loop-left : goal.invariant-loop-left
invariant-loop-left l = record {
  same : first_free (λ index. is_live l.kind index (carried (made_of l.registry) l.parts).actions) l.left l.index
      ≡ free_index l.kind (carried (made_of l.registry) l.parts).actions;
  few : l.index + l.left ≤ 2048;
}

abbrev pub decreases-loop-left : goal.decreases-loop-left
decreases-loop-left l = l.left
