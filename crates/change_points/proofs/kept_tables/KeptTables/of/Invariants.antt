use Rattle.std.proofs.Common.{◌≡◌, take}
use Rattle.std.specs.Prelude.{map}
use Rattle.filter_tables.specs.Seen.{plain_table}
use Rattle.head_laws.specs.Heads.{head_of}
use Rattle.change_points.proofs.kept_tables.KeptTables.of.Given as goal

abbrev pub invariant-loop-table : goal.invariant-loop-table
invariant-loop-table l = l.kept.items ≡ map head_of (map plain_table (take l.table-index l.tables))
