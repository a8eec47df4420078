use Rattle.std.proofs.Common.{◌==◌, Bool, length, ap, sym, ◌∙◌}
use Rattle.filter_index.specs.Listed.{FilterRoom}
use Rattle.filter_tables.specs.SeenMask.{plain_mask}
use Rattle.filter_tables.proofs.Swept.{swept_gone, swept_kept}
use Rattle.filter_tables.proofs.mask_edits.sweep.Goals as goal

abbrev none_in : FilterRoom → Bool
none_in room = length room.filters == 0

pub returns-then-is_empty : goal.returns-then-is_empty
returns-then-is_empty c =
    rw c.remove.ensures.items
    (swept_gone plain_mask c.args.lists.now.items c.args.at c.index.result.now c.requires c.index.ensures (ap none_in (sym c.filters.ensures) ∙ sym c.is_empty.ensures ∙ c.if-is_empty.true))

pub returns-else-is_empty : goal.returns-else-is_empty
returns-else-is_empty c =
    swept_kept plain_mask c.args.lists.now.items c.args.at c.index.result.now c.requires c.index.ensures (ap none_in (sym c.filters.ensures) ∙ sym c.is_empty.ensures ∙ c.if-is_empty.false)
