-- What workers keep of their walks in a round (this project's own).
use Rattle.std.specs.Prelude.{◌≡◌, ℕ, ◌+◌, ◌≤◌, ◌<◌, List, length, slice_get, Some}
use mathlib.Core.List.{IsPrefix}
use Rattle.filter_state.specs.declared.edit.Edit.{Edit}
use Rattle.filter_state.specs.Sound.{Each}
use Rattle.run_report.specs.declared.outcomes.Outcome.{Outcome}
use Rattle.lawful_runs.specs.Given.{Arrival}
use Rattle.lawful_runs.specs.Outcomes.{IsWalked}

-- a packet, by its place in the round's capture from 0, and what its walk came to
pub record LogRow : Type 0 where
  pub number : ℕ
  pub outcome : Outcome

-- no point is past that one
abbrev pub ArePointsTo : ℕ → List ℕ → Type 0
ArePointsTo most points = Each (λ (point : ℕ). point ≤ most) points

-- A ROW of a worker's log: the walk of its packet over what the worker had seen when it ended. Its floor is no
-- lower than `start`, nor than any point of the rows before it, whose numbers are lower.
pub record IsRowAt (worker start : ℕ) (journal : List Edit) (arrivals : List Arrival) (rows : List LogRow)
    (at : ℕ) (it : LogRow) : Type 0 where
  pub arrival : Arrival
  pub there : slice_get arrivals it.number ≡ Some arrival
  pub seen : List Edit
  pub beginning : IsPrefix seen journal
  pub floor : ℕ
  pub walked : IsWalked seen floor (length seen) arrival it.outcome
  pub by : it.outcome.worker ≡ worker
  pub least : start ≤ floor
  pub behind : (early : ℕ) (other : LogRow) → early < at → slice_get rows early ≡ Some other
      → (other.number < it.number) × ArePointsTo floor other.outcome.points

abbrev pub AreRows : ℕ → ℕ → List Edit → List Arrival → List LogRow → Type 0
AreRows worker start journal arrivals rows =
    (at : ℕ) (it : LogRow) → slice_get rows at ≡ Some it → IsRowAt worker start journal arrivals rows at it

-- A WORKER'S LOG OF A ROUND: rows with a start that is past the edits before the round, and past all that the
-- worker saw in earlier rounds
pub record IsLog (worker : ℕ) (journal : List Edit) (before : ℕ) (earlier : List Outcome)
    (arrivals : List Arrival) (rows : List LogRow) : Type 0 where
  pub start : ℕ
  pub are_rows : AreRows worker start journal arrivals rows
  pub late : before ≤ start
  pub seen : (place : ℕ) (outcome : Outcome) → slice_get earlier place ≡ Some outcome
      → outcome.worker ≡ worker → ArePointsTo start outcome.points

-- the logs of all workers, who are numbered from 1
abbrev pub AreLogs : List Edit → ℕ → List Outcome → List Arrival → List (List LogRow) → Type 0
AreLogs journal before earlier arrivals logs = (index : ℕ) (rows : List LogRow)
    → slice_get logs index ≡ Some rows → IsLog (index + 1) journal before earlier arrivals rows

-- the outcome of a packet is that of a row with its number
pub record IsPlacedAt (logs : List (List LogRow)) (place : ℕ) (outcome : Outcome) : Type 0 where
  pub index : ℕ
  pub rows : List LogRow
  pub at : ℕ
  pub it : LogRow
  pub log : slice_get logs index ≡ Some rows
  pub there : slice_get rows at ≡ Some it
  pub number : it.number ≡ place
  pub same : it.outcome ≡ outcome

abbrev pub ArePlaced : List (List LogRow) → List Outcome → Type 0
ArePlaced logs outcomes =
    (place : ℕ) (outcome : Outcome) → slice_get outcomes place ≡ Some outcome → IsPlacedAt logs place outcome
