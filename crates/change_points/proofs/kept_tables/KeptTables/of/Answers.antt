use Rattle.std.proofs.Common.{◌≡◌, take, length, arith}
use Rattle.filter_tables.specs.Seen.{plain_table}
use Rattle.head_laws.specs.Heads.{head_of}
use Rattle.classify_walk.proofs.Limits.{tables_fit, masks_fit}
use Rattle.change_points.proofs.Places.{few_taken, as_long}
use Rattle.change_points.proofs.kept_tables.KeptTables.of.Goals as goal

pub of-requires : goal.of-requires
of-requires c =
    masks_fit c.args.lists.now c.args.hook c.tables-tables.result.now c.loop-table.table-index
    c.table-item.result c.tables-tables.ensures.kept c.tables-tables.ensures.tables c.loop-table-test.true
    c.table-item.is

pub invariant_of-result : goal.invariant_of-result
invariant_of-result c =
    let tables = c.tables-tables.result.now in
    let some = take c.loop-table.table-index tables in
    let few = tables_fit c.args.lists.now c.args.hook tables c.tables-tables.ensures.kept
    c.tables-tables.ensures.tables in
    let count : length c.loop-table.kept.items ≡ length some =
    as_long head_of plain_table c.loop-table.kept.items some c.loop-table.invariant in
    let taken = few_taken c.loop-table.table-index tables in
    omega (arith, few, count, taken)
