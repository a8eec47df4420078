-- How often the workers of a run visited their hook (this project's own).
use Rattle.std.specs.Prelude.{◌≡◌, ℕ, ◌+◌, ◌==◌, List, length, sum_by, slice_get, Some, if◌then◌else◌}
use Rattle.run_report.specs.declared.outcomes.Outcome.{Outcome}
use Rattle.run_report.specs.declared.rounds.RoundRecord.{RoundRecord}
use Rattle.lawful_runs.specs.Lawful.{outcomes_in}
use Rattle.hook_reader.specs.Seats.{HookSeat}

-- the visits that a worker's outcomes tell: each has a point
abbrev pub visits_by : ℕ → List Outcome → ℕ
visits_by worker outcomes =
    sum_by (λ (outcome : Outcome). if outcome.worker == worker then length outcome.points else 0) outcomes

-- THE READERS OF A RUN, each at its worker's place, have made exactly as many visits as its outcomes tell
abbrev pub HaveVisited : List RoundRecord → List HookSeat → Type 0
HaveVisited rounds readers = (at : ℕ) (reader : HookSeat) → slice_get readers at ≡ Some reader
    → reader.visits ≡ visits_by (at + 1) (outcomes_in rounds)
