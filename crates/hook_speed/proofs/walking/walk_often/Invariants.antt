use Rattle.std.proofs.Common.{◌≡◌, ◌*◌}
use Rattle.pin_store.specs.Calls.{pin_of, IsOutside, IsSeatOf}
use Rattle.hook_speed.proofs.walking.walk_often.Given as goal

abbrev pub invariant-loop-number : goal.invariant-loop-number
invariant-loop-number l = IsSeatOf l.store l.reader.place × IsOutside l.reader.place × (pin_of l.reader.place ≡ 2 * l.number)
