use Rattle.std.proofs.Common.{◌≡◌, ◌++◌, take, map}
use Rattle.std.specs.List.{flat_map}
use Rattle.filter_tables.specs.Seen.{plain_table}
use Rattle.filter_tables.specs.SeenMask.{plain_mask}
use Rattle.state_past.specs.OfGoneFilters.Marks.{marked, marks_in}
use Rattle.state_past.proofs.gone_filters.telling.add_table.Given as goal

abbrev pub invariant-loop-mask : goal.invariant-loop-mask
invariant-loop-mask l = map marked l.going.items ≡ map marked l.fn.going.items ++ flat_map (λ m. marks_in l.hook (plain_table l.table) (plain_mask m)) (take l.mask-index l.masks)
