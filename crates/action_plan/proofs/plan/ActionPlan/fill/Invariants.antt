use Rattle.std.proofs.Common.{◌≡◌, [], drop, length}
use Rattle.filter_state.specs.Lines.{AreFilterActions}
use Rattle.filter_state.specs.Actions.{resolved}
use Rattle.action_plan.specs.Plans.{made_of, AreFit}
use Rattle.action_plan.proofs.Planning.{resolved_to}
use Rattle.action_plan.proofs.plan.ActionPlan.fill.Given as goal

abbrev pub invariant-loop-line : goal.invariant-loop-line
invariant-loop-line l = record {
  fit : AreFit (made_of l.registry) l.self;
  same : resolved (resolved_to (made_of l.registry) l.self) (drop l.line-index l.lines) ≡ resolved (record { so_far = made_of l.registry; serials = [] }) l.lines;
  so_many : length l.self ≡ l.line-index;
  lines : AreFilterActions (drop l.line-index l.lines);
}
