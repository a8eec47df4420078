use Rattle.std.proofs.Common.{◌≡◌, length, map, take}
use Rattle.std.specs.Prelude.{All, flat_map}
use Rattle.worker_rounds.specs.OfLogs.Named.{IsNamed}
use Rattle.worker_rounds.specs.OfLogs.Rows.{numbers_of}
use Rattle.worker_rounds.proofs.logs.placing.places_of.Given as goal

-- the rows of the logs so far are named
abbrev pub invariant-loop-list : goal.invariant-loop-list
invariant-loop-list l = record {
  many : length l.places.items ≡ l.count;
  named : All (IsNamed (map numbers_of l.logs) l.places.items) (flat_map numbers_of (take l.list l.logs));
}
