use Rattle.filter_tables.specs.Seen.{plain_table}
use Rattle.classify_walk.specs.Found.{has_mask}
use Rattle.classify_walk.proofs.Searching.{NoneBefore}
use Rattle.classify_walk.proofs.finding.search.Given as goal

abbrev pub invariant-loop-table : goal.invariant-loop-table
invariant-loop-table l = NoneBefore (has_mask l.serial) plain_table l.tables l.table-index
