-- What a worker of a run has seen (this project's own).
use Rattle.std.specs.Prelude.{ℕ, ◌==◌, Bool, List, max, fold, filter}
use Rattle.std.specs.List.{flat_map}
use Rattle.run_report.specs.declared.outcomes.Outcome.{Outcome}

abbrev pub is_by : ℕ → Outcome → Bool
is_by worker outcome = outcome.worker == worker

abbrev pub greatest : List ℕ → ℕ
greatest points = fold max 0 points

-- the greatest point of a worker's walks among these
abbrev pub seen_by : ℕ → List Outcome → ℕ
seen_by worker outcomes =
    greatest (flat_map (λ (outcome : Outcome). outcome.points) (filter (is_by worker) outcomes))
