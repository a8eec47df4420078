-- The rows of a worker's log (this project's own).
use Rattle.std.specs.Prelude.{◌≡◌, ℕ, ◌<◌, List, [], ◌∷◌, map, slice_get, Some}
use Rattle.run_report.specs.declared.outcomes.Outcome.{Outcome}
use Rattle.lawful_runs.specs.OfLogs.Logs.{LogRow}

abbrev pub row_of : ℕ → Outcome → LogRow
row_of number outcome = record { number = number; outcome = outcome }

-- numbers with the outcomes at the same places
abbrev pub rows_in : List ℕ → List Outcome → List LogRow
rows_in (number ∷ numbers) (outcome ∷ outcomes) = row_of number outcome ∷ rows_in numbers outcomes
rows_in [] outcomes = []
rows_in (number ∷ numbers) [] = []

abbrev pub numbers_of : List LogRow → List ℕ
numbers_of rows = map (λ (it : LogRow). it.number) rows

abbrev pub outcomes_of : List LogRow → List Outcome
outcomes_of rows = map (λ (it : LogRow). it.outcome) rows

-- all rows have lower numbers
abbrev pub AreBelow : ℕ → List LogRow → Type 0
AreBelow number rows = (at : ℕ) (it : LogRow) → slice_get rows at ≡ Some it → it.number < number
