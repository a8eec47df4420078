use Rattle.filter_tables.specs.Seen.{plain_table}
use Rattle.filter_tables.specs.SeenMask.{plain_mask}
use Rattle.filter_lists.specs.OfReplacing.Planning.{arrival_of}
use Rattle.filter_lists.proofs.OfReplacing.Going.{to_there, table_within, to_within, moved_to}
use Rattle.filter_lists.proofs.replacing.planning.move_to.Goals as goal
use Rattle.std.proofs.Common.{Some, ap, ◌∙◌}

pub reserve_filter-requires-clause-mask : goal.reserve_filter-requires-clause-mask
reserve_filter-requires-clause-mask c = to_there c.args.kept.now c.args.line.now c.args.old.now c.args.to c.requires.leaves

pub table_at-requires : goal.table_at-requires
table_at-requires c = table_within c.args.kept.now c.reserve_filter.new.kept c.args.line.now c.args.old.now c.reserve_filter.ensures.roomier (Some c.args.to) c.requires.leaves

pub mask_at-requires : goal.mask_at-requires
mask_at-requires c =
    to_within c.args.kept.now c.reserve_filter.new.kept c.args.line.now c.args.old.now c.reserve_filter.ensures.roomier c.args.to (plain_table c.table_at.result.now) c.requires.leaves c.table_at.ensures

pub arrival_for-requires : goal.arrival_for-requires
arrival_for-requires c = table_within c.args.kept.now c.reserve_filter.new.kept c.args.line.now c.args.old.now c.reserve_filter.ensures.roomier (Some c.args.to) c.requires.leaves

pub returns-clause-change : goal.returns-clause-change
returns-clause-change c =
    moved_to c.args.kept.now c.reserve_filter.new.kept c.args.line.now c.args.old.now c.reserve_filter.ensures.roomier c.args.to c.args.actions (plain_table c.table_at.result.now)
    (plain_mask c.mask_at.result.now) c.arrival_for.result c.requires.kept c.requires.leaves c.table_at.ensures c.mask_at.ensures
    (λ t there. c.arrival_for.ensures t there ∙ ap (λ serial. arrival_of c.args.line.now c.args.old.now t serial c.args.actions) c.serial-serial.ensures)
    c.in_ok-reserve_filter.ensures.room
