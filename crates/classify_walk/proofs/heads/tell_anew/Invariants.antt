use Rattle.std.proofs.Common.{◌≡◌, take}
use Rattle.std.specs.Prelude.{map}
use Rattle.filter_tables.specs.Seen.{plain_table}
use Rattle.walk_steps.specs.Told.{heads_told}
use Rattle.head_laws.specs.Heads.{head_of}
use Rattle.classify_walk.proofs.heads.tell_anew.Given as goal

abbrev pub invariant-loop-place : goal.invariant-loop-place
invariant-loop-place l = heads_told l.into.tables ≡ map head_of (map plain_table (take l.place l.tables))
