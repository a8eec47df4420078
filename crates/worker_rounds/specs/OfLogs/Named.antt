-- Rows that are named by the logs and places in which they stand (this project's own).
use Rattle.std.specs.Prelude.{◌≡◌, ℕ, List, slice_get, Option, Some, option_and_then}
use Rattle.run_report.specs.declared.outcomes.OutcomePlace.{OutcomePlace}

-- the number of the row at a place, where all are the numbers of the logs
abbrev pub number_there : List (List ℕ) → OutcomePlace → Option ℕ
number_there all place =
    option_and_then (λ (numbers : List ℕ). slice_get numbers place.row) (slice_get all place.list)

-- what stands at that number names a row with the number
abbrev pub IsNamed : List (List ℕ) → List OutcomePlace → ℕ → Type 0
IsNamed all places number = option_and_then (number_there all) (slice_get places number) ≡ Some number
