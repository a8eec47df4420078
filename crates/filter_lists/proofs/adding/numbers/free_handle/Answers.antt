use Rattle.filter_tables.specs.Seen.{plain_table}
use Rattle.filter_lists.proofs.OfAdding.Asking.{few_in_table}
use Rattle.filter_lists.proofs.adding.numbers.free_handle.Goals as goal

pub free_handle-requires : goal.free_handle-requires
free_handle-requires c = few_in_table c.args.kept.now c.args.hook c.in-InMask.table (plain_table c.table_at.result.now) c.requires.kept c.table_at.ensures

pub free_handle-requires-in-NewMask : goal.free_handle-requires-in-NewMask
free_handle-requires-in-NewMask c =
    few_in_table c.args.kept.now c.args.hook c.in-NewMask.table (plain_table c.table_at-in-NewMask.result.now) c.requires.kept c.table_at-in-NewMask.ensures
