use Rattle.std.proofs.Common.{◌≡◌, take}
use Rattle.walk_steps.specs.Told.{heads_told}
use Rattle.change_points.proofs.kept_tables.KeptTables.tell.Given as goal

abbrev pub invariant-loop-table : goal.invariant-loop-table
invariant-loop-table l = heads_told l.into.tables ≡ take l.table-index l.self
