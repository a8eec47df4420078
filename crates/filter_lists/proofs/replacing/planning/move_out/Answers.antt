use Rattle.std.proofs.Common.{None}
use Rattle.filter_lists.proofs.OfReplacing.Seeking.{item_within}
use Rattle.filter_lists.proofs.OfReplacing.Going.{table_within, moved_out}
use Rattle.filter_lists.proofs.replacing.planning.move_out.Goals as goal

pub reserve_mask-requires : goal.reserve_mask-requires
reserve_mask-requires c = record { table = item_within _ _ _ c.requires.leaves.3.stands.table_stands }

pub arrival_for-requires : goal.arrival_for-requires
arrival_for-requires c = table_within c.args.kept.now c.reserve_mask.new.kept c.args.line.now c.args.old.now c.reserve_mask.ensures.roomier None c.requires.leaves

pub returns-clause-change : goal.returns-clause-change
returns-clause-change c =
    moved_out c.args.kept.now c.reserve_mask.new.kept c.args.line.now c.args.old.now c.reserve_mask.ensures.roomier c.in_ok-filters.filters c.args.actions c.arrival_for.result c.requires.kept
    c.requires.leaves c.arrival_for.ensures c.in_ok-filters.ensures c.in_ok-reserve_mask.ensures.room
