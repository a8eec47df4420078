use Rattle.std.proofs.Common.{◌∙◌, ◌++◌, List, map, ap, arith}
use Rattle.filter_index.specs.declared.filter.Filter.{Filter}
use Rattle.filter_index.specs.Listed.{FilterRoom}
use Rattle.filter_tables.specs.Rows.{row_of}
use Rattle.filter_tables.specs.Seen.{plain_table}
use Rattle.filter_tables.specs.SeenMask.{plain_mask}
use Rattle.state_past.specs.OfGoneFilters.Marks.{Mark, mark_of, marked, marks_at}
use Rattle.state_past.proofs.OfGoneFilters.Growing.{all_of, slots_have}
use Rattle.state_past.proofs.gone_filters.telling.add_mask.Goals as goal

pub returns : goal.returns
returns c = let t = plain_table c.args.table.now in let m = plain_mask c.args.mask.now in
    c.loop-slot.invariant ∙ ap (λ (l : List Mark). map marked c.args.going.now.items ++ l)
    (all_of (marks_at c.args.hook t m) c.slots-slots.result.now c.loop-slot.slot-index (omega (arith, c.loop-slot-test.false)) ∙ (slots_have c.args.hook t m c.slots-slots.result.now
    ∙ ap (λ (fs : List Filter). map mark_of (map (row_of c.args.hook t m) fs)) (c.slots-slots.ensures.filters ∙ ap (λ (room : FilterRoom). room.filters) c.filters.ensures)))
