use Rattle.std.proofs.Common.{◌≡◌, ◌-◌, length, drop}
use Rattle.walk_rules.specs.Steps.{first_stop}
use Rattle.walk_steps.specs.Told.{heads_told}
use Rattle.walk_steps.proofs.stops.first_stop.Given as goal

abbrev pub invariant-loop-table : goal.invariant-loop-table
invariant-loop-table l = first_stop l.chain l.ether (heads_told (drop l.table l.heads)) ≡ first_stop l.chain l.ether (heads_told (drop l.fn.from l.heads))

abbrev pub decreases-loop-table : goal.decreases-loop-table
decreases-loop-table l = length l.heads - l.table
