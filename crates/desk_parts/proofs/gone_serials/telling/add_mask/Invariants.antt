use Rattle.std.proofs.Common.{◌≡◌, ◌++◌, take}
use Rattle.std.specs.List.{flat_map}
use Rattle.desk_parts.specs.OfGoneSerials.Same.{serials_at}
use Rattle.desk_parts.proofs.gone_serials.telling.add_mask.Given as goal

abbrev pub invariant-loop-slot : goal.invariant-loop-slot
invariant-loop-slot l = l.gone.items ≡ l.fn.gone.items ++ flat_map serials_at (take l.slot-index l.slots)
