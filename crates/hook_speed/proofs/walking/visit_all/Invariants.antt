use Rattle.std.proofs.Common.{◌≡◌}
use Rattle.pin_store.specs.Calls.{pin_of, IsInside, IsSeatOf}
use Rattle.walk_steps.specs.Walking.{IsOnWay}
use Rattle.hook_speed.specs.Known.{Knows}
use Rattle.hook_speed.proofs.walking.visit_all.Given as goal

abbrev pub invariant-loop : goal.invariant-loop
invariant-loop l = IsSeatOf l.store l.reader.place × IsInside l.reader.place × (pin_of l.reader.place ≡ pin_of l.fn.reader.place) × IsOnWay l.walk.standing × Knows l.reader l.walk
