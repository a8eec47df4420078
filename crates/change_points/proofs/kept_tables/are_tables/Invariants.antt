use Rattle.std.proofs.Common.{◌≡◌, take}
use Rattle.std.specs.Prelude.{map}
use Rattle.filter_tables.specs.Seen.{plain_table}
use Rattle.head_laws.specs.Heads.{head_of}
use Rattle.change_points.proofs.kept_tables.are_tables.Given as goal

abbrev pub invariant-loop-place : goal.invariant-loop-place
invariant-loop-place l = take l.place l.kept ≡ map head_of (map plain_table (take l.place l.tables))
