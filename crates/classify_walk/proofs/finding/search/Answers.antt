use Rattle.std.proofs.Common.{subst}
use Rattle.filter_tables.specs.Seen.{plain_table}
use Rattle.filter_tables.specs.SeenMask.{plain_mask}
use Rattle.classify_walk.specs.Found.{IsOneOf}
use Rattle.classify_walk.proofs.Searching.{item_lent}
use Rattle.classify_walk.proofs.finding.search.Goals as goal

pub returns-in-Some-clause-found : goal.returns-in-Some-clause-found
returns-in-Some-clause-found c = record {
  table = plain_table c.table-item.result;
  place = c.loop-table.table-index;
  there = item_lent plain_table c.args.tables.now c.loop-table.table-index c.table-item.result c.loop-table-test.true c.table-item.is;
  within = subst (λ ms. IsOneOf ms c.args.serial (plain_mask c.in-Some.list.now)) c.as_slice.ensures c.in-Some.ensures.found;
}
