use Rattle.std.proofs.Common.{◌≡◌, take}
use Rattle.action_plan.specs.Plans.{serials_of}
use Rattle.action_plan.proofs.serials.serials_of.Given as goal

abbrev pub invariant-loop-part : goal.invariant-loop-part
invariant-loop-part l = l.serials.items ≡ serials_of (take l.part-index l.parts)
