use Rattle.std.proofs.Common.{◌≡◌, ◌++◌, take, map}
use Rattle.std.specs.List.{flat_map}
use Rattle.filter_tables.specs.Seen.{plain_table}
use Rattle.filter_tables.specs.SeenMask.{plain_mask}
use Rattle.state_past.specs.OfGoneFilters.Marks.{marked, marks_at}
use Rattle.state_past.proofs.gone_filters.telling.add_mask.Given as goal

abbrev pub invariant-loop-slot : goal.invariant-loop-slot
invariant-loop-slot l = map marked l.going.items ≡ map marked l.fn.going.items ++ flat_map (marks_at l.hook (plain_table l.table) (plain_mask l.mask)) (take l.slot-index l.slots)
