use Rattle.std.proofs.Common.{◌∙◌, ◌++◌, List, map, ap, arith}
use Rattle.std.specs.List.{flat_map}
use Rattle.filter_tables.specs.Seen.{plain_table}
use Rattle.filter_tables.specs.SeenMask.{plain_mask}
use Rattle.state_past.specs.OfGoneFilters.Marks.{Mark, marked, marks_in}
use Rattle.state_past.proofs.OfGoneFilters.Growing.{all_of, lent_masks, masks_have}
use Rattle.state_past.proofs.gone_filters.telling.add_table.Goals as goal

pub returns : goal.returns
returns c = let t = plain_table c.args.table.now in let hook = c.args.hook in
    c.loop-mask.invariant ∙ ap (λ (l : List Mark). map marked c.args.going.now.items ++ l)
    (all_of (λ m. marks_in hook t (plain_mask m)) c.as_slice-masks.result.now c.loop-mask.mask-index (omega (arith, c.loop-mask-test.false))
    ∙ (lent_masks (marks_in hook t) plain_mask c.as_slice-masks.result.now ∙ (ap (flat_map (marks_in hook t)) c.as_slice-masks.ensures ∙ masks_have hook t t.masks)))
