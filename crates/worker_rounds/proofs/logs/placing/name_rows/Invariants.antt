use Rattle.std.proofs.Common.{◌≡◌, ℕ, List, take}
use Rattle.std.specs.Prelude.{All, slice_get, Some}
use Rattle.worker_rounds.specs.OfLogs.Named.{IsNamed}
use Rattle.worker_rounds.proofs.logs.placing.name_rows.Given as goal

-- the rows so far are named, and what was named before still is
abbrev pub invariant-loop-row : goal.invariant-loop-row
invariant-loop-row l = record {
  named : (all : List (List ℕ)) → slice_get all l.list ≡ Some l.numbers → All (IsNamed all l.places) (take l.row l.numbers);
  kept : (all : List (List ℕ)) → slice_get all l.list ≡ Some l.numbers → (number : ℕ) → IsNamed all l.fn.places number → IsNamed all l.places number;
}
