use Rattle.std.proofs.Common.{map}
use Rattle.filter_tables.specs.Seen.{plain_table}
use Rattle.filter_tables.specs.SeenMask.{plain_mask}
use Rattle.filter_lists.proofs.OfRemoving.Removing.{OneStep, one_some, one_bound, one_done, TableStep, place_ready, all_some, all_bound, all_done}
use Rattle.filter_lists.proofs.removing.doing.remove.Goals as goal

pub let_go-requires-clause-some : goal.let_go-requires-clause-some
let_go-requires-clause-some c =
    let one : OneStep c.args.kept.now c.take_filter-filter.new.kept c.args.removal c.take_filter-filter.result =
    record {
      hook = c.in-OneFilter.hook;
      chain = c.in-OneFilter.chain;
      pref = c.in-OneFilter.pref;
      handle = c.in-OneFilter.handle;
      table = c.in-OneFilter.table;
      mask = c.in-OneFilter.mask;
      is = c.in-OneFilter.is;
      taken = c.take_filter-filter.ensures.taken;
      has = c.take_filter-filter.ensures.tables;
    } in
    one_some c.args.kept.now c.take_filter-filter.new.kept c.args.removal c.take_filter-filter.result c.requires.kept c.requires.ready one

pub let_go-requires-clause-bound : goal.let_go-requires-clause-bound
let_go-requires-clause-bound c =
    let one : OneStep c.args.kept.now c.take_filter-filter.new.kept c.args.removal c.take_filter-filter.result =
    record {
      hook = c.in-OneFilter.hook;
      chain = c.in-OneFilter.chain;
      pref = c.in-OneFilter.pref;
      handle = c.in-OneFilter.handle;
      table = c.in-OneFilter.table;
      mask = c.in-OneFilter.mask;
      is = c.in-OneFilter.is;
      taken = c.take_filter-filter.ensures.taken;
      has = c.take_filter-filter.ensures.tables;
    } in
    one_bound c.args.kept.now c.take_filter-filter.new.kept c.args.removal c.take_filter-filter.result c.requires.kept c.requires.ready one

pub returns-in-OneFilter : goal.returns-in-OneFilter
returns-in-OneFilter c =
    let one : OneStep c.args.kept.now c.take_filter-filter.new.kept c.args.removal c.take_filter-filter.result =
    record {
      hook = c.in-OneFilter.hook;
      chain = c.in-OneFilter.chain;
      pref = c.in-OneFilter.pref;
      handle = c.in-OneFilter.handle;
      table = c.in-OneFilter.table;
      mask = c.in-OneFilter.mask;
      is = c.in-OneFilter.is;
      taken = c.take_filter-filter.ensures.taken;
      has = c.take_filter-filter.ensures.tables;
    } in
    one_done c.args.kept.now c.take_filter-filter.new.kept c.let_go.new.kept c.args.removal c.take_filter-filter.result c.requires.kept c.requires.ready one c.let_go.ensures

pub take_table-table-requires : goal.take_table-table-requires
take_table-table-requires c =
    place_ready c.args.kept.now c.args.removal c.in-WholeTable.hook c.in-WholeTable.chain c.in-WholeTable.pref c.in-WholeTable.table c.in-WholeTable.is c.requires.ready

pub let_all_go-requires-clause-some : goal.let_all_go-requires-clause-some
let_all_go-requires-clause-some c =
    let whole : TableStep c.args.kept.now c.take_table-table.new.kept c.args.removal (map plain_mask c.as_slice.result.now) =
    record {
      hook = c.in-WholeTable.hook;
      chain = c.in-WholeTable.chain;
      pref = c.in-WholeTable.pref;
      place = c.in-WholeTable.table;
      table = plain_table c.take_table-table.result;
      is = c.in-WholeTable.is;
      there = c.take_table-table.ensures.table;
      its_masks = c.as_slice.ensures;
      has = c.take_table-table.ensures.tables;
    } in
    all_some c.args.kept.now c.take_table-table.new.kept c.args.removal (map plain_mask c.as_slice.result.now) c.requires.kept c.requires.ready whole

pub let_all_go-requires-clause-bound : goal.let_all_go-requires-clause-bound
let_all_go-requires-clause-bound c =
    let whole : TableStep c.args.kept.now c.take_table-table.new.kept c.args.removal (map plain_mask c.as_slice.result.now) =
    record {
      hook = c.in-WholeTable.hook;
      chain = c.in-WholeTable.chain;
      pref = c.in-WholeTable.pref;
      place = c.in-WholeTable.table;
      table = plain_table c.take_table-table.result;
      is = c.in-WholeTable.is;
      there = c.take_table-table.ensures.table;
      its_masks = c.as_slice.ensures;
      has = c.take_table-table.ensures.tables;
    } in
    all_bound c.args.kept.now c.take_table-table.new.kept c.args.removal (map plain_mask c.as_slice.result.now) c.requires.kept c.requires.ready whole

pub returns-in-WholeTable : goal.returns-in-WholeTable
returns-in-WholeTable c =
    let whole : TableStep c.args.kept.now c.take_table-table.new.kept c.args.removal (map plain_mask c.as_slice.result.now) =
    record {
      hook = c.in-WholeTable.hook;
      chain = c.in-WholeTable.chain;
      pref = c.in-WholeTable.pref;
      place = c.in-WholeTable.table;
      table = plain_table c.take_table-table.result;
      is = c.in-WholeTable.is;
      there = c.take_table-table.ensures.table;
      its_masks = c.as_slice.ensures;
      has = c.take_table-table.ensures.tables;
    } in
    all_done c.args.kept.now c.take_table-table.new.kept c.let_all_go.new.kept c.args.removal (map plain_mask c.as_slice.result.now) c.requires.kept c.requires.ready whole c.let_all_go.ensures
