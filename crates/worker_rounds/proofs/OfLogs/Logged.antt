-- Rows as numbers and outcomes.
use Rattle.std.proofs.Common.{◌≡◌, ℕ, zero, suc, List, [], ◌∷◌, ◌++◌, length, Some, refl, ap, arith}
use Rattle.std.specs.List.{slice_get}
use Rattle.run_report.specs.declared.outcomes.Outcome.{Outcome}
use Rattle.lawful_runs.specs.OfLogs.Logs.{LogRow}
use Rattle.worker_rounds.specs.OfLogs.Rows.{row_of, rows_in, numbers_of, outcomes_of}

pub rows_pushed : (numbers : List ℕ) (outcomes : List Outcome) (number : ℕ) (outcome : Outcome) → length numbers ≡ length outcomes
    → rows_in (numbers ++ number ∷ []) (outcomes ++ outcome ∷ []) ≡ rows_in numbers outcomes ++ row_of number outcome ∷ []
rows_pushed [] [] number outcome same = refl
rows_pushed [] (o ∷ outcomes) number outcome same = absurd (omega (arith, same))
rows_pushed (n ∷ numbers) [] number outcome same = absurd (omega (arith, same))
rows_pushed (n ∷ numbers) (o ∷ outcomes) number outcome same =
    ap (λ (rows : List LogRow). row_of n o ∷ rows) (rows_pushed numbers outcomes number outcome (omega (arith, same)))

pub rows_many : (numbers : List ℕ) (outcomes : List Outcome) → length numbers ≡ length outcomes → length (rows_in numbers outcomes) ≡ length numbers
rows_many [] outcomes same = refl
rows_many (n ∷ numbers) [] same = absurd (omega (arith, same))
rows_many (n ∷ numbers) (o ∷ outcomes) same = let rest = rows_many numbers outcomes (omega (arith, same)) in omega (arith, rest)

pub row_at : (numbers : List ℕ) (outcomes : List Outcome) (place number : ℕ) (outcome : Outcome) → slice_get numbers place ≡ Some number → slice_get outcomes place ≡ Some outcome
    → slice_get (rows_in numbers outcomes) place ≡ Some (row_of number outcome)
row_at [] outcomes place number outcome is there = absurd (cc is)
row_at (n ∷ numbers) [] place number outcome is there = absurd (cc there)
row_at (n ∷ numbers) (o ∷ outcomes) zero number outcome is there =
    let same : n ≡ number = cc is in
    let also : o ≡ outcome = cc there in
    cc (same, also)
row_at (n ∷ numbers) (o ∷ outcomes) (suc place) number outcome is there = row_at numbers outcomes place number outcome is there

-- the numbers and the outcomes of the rows
pub numbers_are : (numbers : List ℕ) (outcomes : List Outcome) → length numbers ≡ length outcomes → numbers_of (rows_in numbers outcomes) ≡ numbers
numbers_are [] [] same = refl
numbers_are [] (o ∷ outcomes) same = absurd (omega (arith, same))
numbers_are (n ∷ numbers) [] same = absurd (omega (arith, same))
numbers_are (n ∷ numbers) (o ∷ outcomes) same = ap (λ (ns : List ℕ). n ∷ ns) (numbers_are numbers outcomes (omega (arith, same)))

pub outcomes_are : (numbers : List ℕ) (outcomes : List Outcome) → length numbers ≡ length outcomes → outcomes_of (rows_in numbers outcomes) ≡ outcomes
outcomes_are [] [] same = refl
outcomes_are [] (o ∷ outcomes) same = absurd (omega (arith, same))
outcomes_are (n ∷ numbers) [] same = absurd (omega (arith, same))
outcomes_are (n ∷ numbers) (o ∷ outcomes) same = ap (λ (os : List Outcome). o ∷ os) (outcomes_are numbers outcomes (omega (arith, same)))
