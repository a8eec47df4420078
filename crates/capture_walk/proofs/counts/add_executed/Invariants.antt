use Rattle.std.proofs.Common.{◌≡◌, map, take}
use Rattle.walk_steps.specs.Told.{execution}
use Rattle.capture_walk.specs.Captures.{each_added}
use Rattle.capture_walk.proofs.counts.add_executed.Given as goal

abbrev pub invariant-loop-serial : goal.invariant-loop-serial
invariant-loop-serial l = l.counts ≡ each_added 1 l.fn.counts (map execution (take l.serial-index l.executed))
