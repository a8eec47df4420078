use Rattle.std.proofs.Common.{◌≡◌, ◌+◌, ◌-◌, ◌*◌, false, drop, length}
use Rattle.act_list.specs.Endings.{ending_from}
use Rattle.act_list.proofs.ending.ending_of.Given as goal

-- the list ends from here as it ends from its start
abbrev pub invariant-loop-ending : goal.invariant-loop-ending
invariant-loop-ending l =
    (l.run.ended ≡ false)
    × (l.run.length ≡ length l.controls)
    × (ending_from l.controls l.run.jumps (drop l.run.at l.controls) ≡ ending_from l.controls 31 l.controls)

-- a jump uses one up, and without one the position rises
abbrev pub decreases-loop-ending : goal.decreases-loop-ending
decreases-loop-ending l = l.run.jumps * 17 + (l.run.length - l.run.at)
