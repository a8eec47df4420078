-- What a worker has seen, where no point of its walks is past some number.
use Rattle.std.proofs.Common.{◌≡◌, ℕ, zero, suc, ◌≤◌, ◌<◌, ◌==◌, Bool, true, false, cond, List, [], ◌∷◌, take, Some, refl, arith}
use Rattle.std.specs.Prelude.{max, fold, filter}
use Rattle.std.specs.List.{slice_get, flat_map}
use Rattle.std.proofs.lemmas.Bool.{eqb-true}
use Rattle.filter_state.specs.Sound.{Each}
use Rattle.filter_state.proofs.Pairs.{each_append}
use Rattle.run_report.specs.declared.outcomes.Outcome.{Outcome}
use Rattle.lawful_runs.specs.Points.{is_by, seen_by}
use Rattle.lawful_runs.specs.OfLogs.Logs.{ArePointsTo}

folded_most : (most start : ℕ) (points : List ℕ) → start ≤ most → ArePointsTo most points → fold max start points ≤ most
folded_most most start [] low each = low
folded_most most start (point ∷ points) low each =
    let first = each.0 in folded_most most (max start point) points (omega (arith, low, first)) each.1

-- the points of an outcome, where it is the worker's
abbrev pub IsSeenTo : ℕ → ℕ → Outcome → Type 0
IsSeenTo worker most outcome = outcome.worker ≡ worker → ArePointsTo most outcome.points

abbrev points_in : List Outcome → List ℕ
points_in outcomes = flat_map (λ (outcome : Outcome). outcome.points) outcomes

one_more : (worker most : ℕ) (b : Bool) (outcome : Outcome) (kept : List Outcome) → (outcome.worker == worker) ≡ b → IsSeenTo worker most outcome
    → ArePointsTo most (points_in kept) → ArePointsTo most (points_in (cond b (outcome ∷ kept) kept))
one_more worker most true outcome kept is one rest =
    each_append (λ (point : ℕ). point ≤ most) outcome.points (points_in kept) (one (eqb-true outcome.worker worker is)) rest
one_more worker most false outcome kept is one rest = rest

all_to : (worker most : ℕ) (outcomes : List Outcome) → Each (IsSeenTo worker most) outcomes → ArePointsTo most (points_in (filter (is_by worker) outcomes))
all_to worker most [] each = tt
all_to worker most (outcome ∷ outcomes) each =
    one_more worker most (is_by worker outcome) outcome (filter (is_by worker) outcomes) refl each.0 (all_to worker most outcomes each.1)

pub seen_most : (worker most : ℕ) (outcomes : List Outcome) → Each (IsSeenTo worker most) outcomes → seen_by worker outcomes ≤ most
seen_most worker most outcomes each =
    folded_most most 0 (points_in (filter (is_by worker) outcomes)) (omega arith) (all_to worker most outcomes each)

-- ---- the first elements of a list
pub taken_at : {X : Type 0} (count : ℕ) (xs : List X) (place : ℕ) (x : X) → slice_get (take count xs) place ≡ Some x → (place < count) × (slice_get xs place ≡ Some x)
taken_at zero xs place x is = absurd (cc is)
taken_at (suc count) [] place x is = absurd (cc is)
taken_at (suc count) (y ∷ xs) zero x is = (omega arith, is)
taken_at (suc count) (y ∷ xs) (suc place) x is =
    let rest = taken_at count xs place x is in let less = rest.0 in (omega (arith, less), rest.1)
