use Rattle.std.proofs.Common.{◌≡◌, ◌≤◌, ◌<◌, ◌+◌, drop, length}
use Rattle.filter_state.specs.States.{Action}
use Rattle.filter_state.specs.Sound.{Each}
use Rattle.action_plan.specs.Entries.{actions_of}
use Rattle.action_plan.specs.Plans.{made_of, carried, AreFit, made_by}
use Rattle.action_plan.proofs.carrying.carry_out.Given as goal

abbrev pub invariant-loop-part : goal.invariant-loop-part
invariant-loop-part l = record {
  short : length (drop l.part-index l.parts) ≤ 16;
  fit : AreFit (made_of l.registry) (drop l.part-index l.parts);
  same : carried (made_of l.registry) (drop l.part-index l.parts) ≡ carried (made_of l.fn.registry) l.parts;
  room : made_by (drop l.part-index l.parts) ≤ l.registry.spare;
  few : length l.registry.entries + made_by (drop l.part-index l.parts) ≤ 1024;
  in_run : l.registry.made + made_by (drop l.part-index l.parts) ≤ 16384;
  references : Each (λ (action : Action). action.references + length (drop l.part-index l.parts) < 4294967295) (actions_of l.registry.entries);
}
