-- The outcomes of logs, at their numbers.
use Rattle.std.proofs.Common.{◌≡◌, ◌∙◌, ℕ, ◌<◌, ◌≤◌, zero, suc, true, List, [], ◌∷◌, length, length-append, get_or, Option, Some, None, refl, sym, ap, subst, inl, inr, arith, eq-eqb}
use Rattle.std.specs.Prelude.{All, Contains, map, slice_get, option_and_then, option_map, sum_by}
use Rattle.std.specs.List.{flat_map, AllByRecursion}
use Rattle.std.specs.Option.{IsSome}
use Rattle.std.proofs.lemmas.Bool.Decides.{eqb_tells}
use Rattle.std.proofs.lemmas.List.{length-map}
use Rattle.std.proofs.lemmas.List.Sums.{sum_by-cons}
use Rattle.std.proofs.lemmas.List.Elements.{All-from_recursion, All-contains}
use Rattle.std.proofs.lemmas.Option.{slice_get-map, slice_get_within, slice_get-get_or, option_and_then_some}
use Rattle.run_report.specs.declared.outcomes.Outcome.{Outcome}
use Rattle.run_report.specs.declared.outcomes.OutcomePlace.{OutcomePlace}
use Rattle.run_report.specs.Kept.{outcome_there, IsThere, outcomes_there}
use Rattle.run_report.proofs.Places.{there_many, there_read}
use Rattle.step_counts.specs.Claims.{times, HasEachBelow}
use Rattle.step_counts.specs.Drawn.{sum_to}
use Rattle.step_counts.proofs.Numbers.{same_as, same_of, other_of, times_cons, below_once, once_is}
use Rattle.step_counts.proofs.Sums.{sums_once}
use Rattle.lawful_runs.specs.OfLogs.Logs.{LogRow, ArePlaced}
use Rattle.worker_rounds.specs.OfLogs.Rows.{numbers_of, outcomes_of}
use Rattle.worker_rounds.specs.OfLogs.Named.{number_there, IsNamed}

-- ---- each number below the count, once
same_self : (x : ℕ) → same_as x x ≡ 1
same_self x = same_of x x true (eq-eqb x x refl)

below_each : (count : ℕ) (xs : List ℕ) → ((x : ℕ) → 1 ≤ times x xs → x < count) → AllByRecursion (λ (x : ℕ). x < count) xs
below_each count [] below = tt
below_each count (x ∷ xs) below = (
  below x (let own = times_cons x x xs in let one = same_self x in omega (arith, own, one)),
  below_each count xs (λ y some. below y (let own = times_cons y x xs in omega (arith, own, some))),
)

pub below_count : (count : ℕ) (xs : List ℕ) → HasEachBelow count xs → All (λ (x : ℕ). x < count) xs
below_count count xs has =
    All-from_recursion (λ (x : ℕ). x < count) xs (below_each count xs (λ x some. below_once count x (let told = has x in omega (arith, told, some))))

stands_in : (x : ℕ) (xs : List ℕ) → 1 ≤ times x xs → Contains xs x
stands_in x [] some = absurd (omega (arith, some))
stands_in x (y ∷ xs) some = elim (eqb_tells y x) [
  | inl told ↦ (0, omega arith, told.1)
  | inr told ↦ (
      let own = times_cons x y xs in
      let none = other_of y x told.1 in
      let rest = stands_in x xs (omega (arith, own, none, some)) in
      (suc rest.0, (let within = rest.1 in omega (arith, within)), rest.2))
]

pub each_stands : (count : ℕ) (xs : List ℕ) → HasEachBelow count xs → (x : ℕ) → x < count → Contains xs x
each_stands count xs has x less = stands_in x xs (let told = has x in let once = once_is count x less in omega (arith, told, once))

-- ---- no log has more rows than there are numbers
units : (xs : List ℕ) → sum_by (λ (x : ℕ). 1) xs ≡ length xs
units [] = refl
units (x ∷ xs) = let rest = units xs in let here = sum_by-cons (λ (x : ℕ). 1) x xs in omega (arith, rest, here)

units_to : (bound : ℕ) → sum_to (λ (x : ℕ). 1) bound ≡ bound
units_to zero = refl
units_to (suc bound) = let rest = units_to bound in omega (arith, rest)

few_by : (count : ℕ) (logs : List (List LogRow)) → length (flat_map numbers_of logs) ≤ count → AllByRecursion (λ (rows : List LogRow). length rows ≤ count) logs
few_by count [] few = tt
few_by count (rows ∷ logs) few =
    let both = length-append (numbers_of rows) (flat_map numbers_of logs) in
    let own = length-map rows (λ (it : LogRow). it.number) in
    (omega (arith, both, own, few), few_by count logs (omega (arith, both, few)))

pub few_rows : (count most : ℕ) (logs : List (List LogRow)) → count ≤ most → HasEachBelow count (flat_map numbers_of logs) → All (λ (rows : List LogRow). length rows ≤ most) logs
few_rows count most logs within has =
    let xs = flat_map numbers_of logs in
    let many = units xs in
    let sum = sums_once (λ (x : ℕ). 1) count xs has in
    let to = units_to count in
    All-from_recursion (λ (rows : List LogRow). length rows ≤ most) logs (few_by most logs (omega (arith, many, sum, to, within)))

-- ---- the row that a place names
record Named (logs : List (List LogRow)) (place : OutcomePlace) (number : ℕ) : Type 0 where
  rows : List LogRow
  it : LogRow
  log : slice_get logs place.list ≡ Some rows
  there : slice_get rows place.row ≡ Some it
  is : it.number ≡ number

mapped : {X Y : Type 0} (f : X → Y) (o : Option X) (y : Y) → option_map f o ≡ Some y → (x : X) × (o ≡ Some x) × (f x ≡ y)
mapped f None y is = absurd (cc is)
mapped f (Some x) y is = (x, refl, cc is)

named_row : (logs : List (List LogRow)) (place : OutcomePlace) (number : ℕ) → number_there (map numbers_of logs) place ≡ Some number → Named logs place number
named_row logs place number is =
    option_and_then_some (λ (numbers : List ℕ). slice_get numbers place.row) (slice_get (map numbers_of logs) place.list) number is
    (λ numbers listed there.
    let log = mapped numbers_of (slice_get logs place.list) numbers (sym (slice_get-map numbers_of logs place.list) ∙ listed) in
    let rows = log.0 in
    let own : slice_get (numbers_of rows) place.row ≡ Some number = ap (λ (ns : List ℕ). slice_get ns place.row) log.2 ∙ there in
    let row = mapped (λ (it : LogRow). it.number) (slice_get rows place.row) number (sym (slice_get-map (λ (it : LogRow). it.number) rows place.row) ∙ own) in
    record { rows = rows; it = row.0; log = log.1; there = row.1; is = row.2 })

-- its outcome is the outcome there
named_outcome : (logs : List (List LogRow)) (place : OutcomePlace) (number : ℕ) (named : Named logs place number) → outcome_there (map outcomes_of logs) place ≡ Some named.it.outcome
named_outcome logs place number named =
    ap (option_and_then (λ (outcomes : List Outcome). slice_get outcomes place.row)) (slice_get-map outcomes_of logs place.list ∙ ap (option_map outcomes_of) named.log)
    ∙ slice_get-map (λ (it : LogRow). it.outcome) named.rows place.row ∙ ap (option_map (λ (it : LogRow). it.outcome)) named.there

-- ---- all numbers are named
module _ (logs : List (List LogRow)) (places : List OutcomePlace) (count : ℕ) (many : length places ≡ count)
    (named : (number : ℕ) → number < count → IsNamed (map numbers_of logs) places number) where
  row_there : (number : ℕ) (place : OutcomePlace) → slice_get places number ≡ Some place → Named logs place number
  row_there number place is =
      let within = slice_get_within places number place is in
      named_row logs place number (sym (ap (option_and_then (number_there (map numbers_of logs))) is) ∙ named number (omega (arith, within, many)))

  is_there : (number : ℕ) (place : OutcomePlace) → slice_get places number ≡ Some place → IsThere (map outcomes_of logs) place
  is_there number place is = subst (λ (o : Option Outcome). IsSome o) (sym (named_outcome logs place number (row_there number place is))) refl

  pub all_there : All (IsThere (map outcomes_of logs)) places
  all_there = λ number place within. is_there number (get_or places number place) (slice_get-get_or places number place within)

  pub outcomes_many : length (outcomes_there (map outcomes_of logs) places) ≡ count
  outcomes_many = there_many (map outcomes_of logs) places all_there ∙ many

  pub are_placed : ArePlaced logs (outcomes_there (map outcomes_of logs) places)
  are_placed number outcome is =
      option_and_then_some (outcome_there (map outcomes_of logs)) (slice_get places number) outcome (sym (there_read (map outcomes_of logs) places all_there number) ∙ is)
      (λ place stands there.
      let row = row_there number place stands in
      let same : Some row.it.outcome ≡ Some outcome = sym (named_outcome logs place number row) ∙ there in
      record {
        index = place.list;
        rows = row.rows;
        at = place.row;
        it = row.it;
        log = row.log;
        there = row.there;
        number = row.is;
        same = cc same;
      })

-- ---- put together
module _ (logs seen : List (List LogRow)) (lists : List (List Outcome)) (places : List OutcomePlace) (count : ℕ) (value : seen ≡ logs) (are : lists ≡ map outcomes_of logs)
    (has : HasEachBelow count (flat_map numbers_of logs)) (many : length places ≡ count) (named : All (IsNamed (map numbers_of seen) places) (flat_map numbers_of seen)) where
  each_named : (number : ℕ) → number < count → IsNamed (map numbers_of logs) places number
  each_named number less =
      All-contains (IsNamed (map numbers_of logs) places) (flat_map numbers_of logs) number
      (subst (λ (ls : List (List LogRow)). All (IsNamed (map numbers_of ls) places) (flat_map numbers_of ls)) value named)
      (each_stands count (flat_map numbers_of logs) has number less)

  pub lists_there : All (IsThere lists) places
  lists_there = subst (λ (ls : List (List Outcome)). All (IsThere ls) places) (sym are) (all_there logs places count many each_named)

  module _ (outcomes : List Outcome) (is : outcomes ≡ outcomes_there lists places) where
    whole : outcomes ≡ outcomes_there (map outcomes_of logs) places
    whole = is ∙ ap (λ (ls : List (List Outcome)). outcomes_there ls places) are

    pub lists_placed : ArePlaced logs outcomes
    lists_placed = subst (ArePlaced logs) (sym whole) (are_placed logs places count many each_named)

    pub lists_many : length outcomes ≡ count
    lists_many = ap length whole ∙ outcomes_many logs places count many each_named
