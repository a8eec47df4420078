use Rattle.std.proofs.Common.{◌≡◌, ◌+◌, drop}
use Rattle.action_plan.specs.Plans.{made_by}
use Rattle.action_plan.proofs.counting.count_made.Given as goal

abbrev pub invariant-loop-part : goal.invariant-loop-part
invariant-loop-part l = l.made + made_by (drop l.part-index l.parts) ≡ made_by l.parts
