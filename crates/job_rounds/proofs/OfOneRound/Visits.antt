-- What the outcomes of a round tell of its workers' visits.
use Rattle.std.proofs.Common.{◌≡◌, ◌∙◌, ℕ, zero, suc, ◌+◌, ◌*◌, ◌<◌, ◌≤◌, ◌≢◌, ◌==◌, min, Bool, true, false, List, [], ◌∷◌, ◌++◌, length, get_or, Some, refl, sym, ap, subst, arith, eq-eqb, inl, inr}
use Rattle.std.specs.Prelude.{sum_by, if◌then◌else◌, nat_lt}
use Rattle.std.specs.List.{flat_map, slice_get}
use Rattle.std.proofs.lemmas.Bool.Decides.{eqb_tells}
use Rattle.std.proofs.lemmas.List.Sums.{sum_by-cons, sum_by-append}
use Rattle.std.proofs.lemmas.Option.{slice_get-get_or, get_or_from_slice_get}
use Rattle.filter_state.specs.Sound.{Each}
use Rattle.run_report.specs.declared.outcomes.Outcome.{Outcome}
use Rattle.step_counts.specs.Claims.{times, HasEachBelow, once_below}
use Rattle.step_counts.specs.Drawn.{sum_to}
use Rattle.step_counts.proofs.Numbers.{same_of, times_cons, below_once}
use Rattle.step_counts.proofs.Sums.{sums_once}
use Rattle.lawful_runs.specs.OfLogs.Logs.{LogRow, ArePlaced}
use Rattle.lawful_runs.specs.Cases.{walked_by}
use Rattle.worker_rounds.specs.OfLogs.Rows.{numbers_of}
use Rattle.worker_rounds.specs.Worked.{visits_after}
use Rattle.job_rounds.specs.Visited.{visits_by}

-- ---- a count that doesn't come to its type's end
abbrev points_of : LogRow → ℕ
points_of it = length it.outcome.points

abbrev pub points_in : List LogRow → ℕ
points_in rows = sum_by points_of rows

pub counted_up : (visits : ℕ) (rows : List LogRow) → visits + points_in rows ≤ 18446744073709551615 → visits_after visits rows ≡ visits + points_in rows
counted_up visits [] few = omega arith
counted_up visits (it ∷ rows) few =
    let front = sum_by-cons points_of it rows in
    let next : min (visits + length it.outcome.points) 18446744073709551615 ≡ visits + length it.outcome.points = omega (arith, front, few) in
    let rest = counted_up (visits + length it.outcome.points) rows (omega (arith, front, few)) in
    let both : (visits + length it.outcome.points) + points_in rows ≡ visits + points_in (it ∷ rows) = omega (arith, front) in
    ap (λ (n : ℕ). visits_after n rows) next ∙ rest ∙ both

-- ---- all rows in one list
abbrev all_rows : List (List LogRow) → List LogRow
all_rows logs = flat_map (λ (rows : List LogRow). rows) logs

numbers_more : (rows others : List LogRow) → numbers_of (rows ++ others) ≡ numbers_of rows ++ numbers_of others
numbers_more [] others = refl
numbers_more (it ∷ rows) others = ap (λ (ns : List ℕ). it.number ∷ ns) (numbers_more rows others)

numbers_all : (logs : List (List LogRow)) → flat_map numbers_of logs ≡ numbers_of (all_rows logs)
numbers_all [] = refl
numbers_all (rows ∷ logs) = ap (λ (ns : List ℕ). numbers_of rows ++ ns) (numbers_all logs) ∙ sym (numbers_more rows (all_rows logs))

in_front : (rows others : List LogRow) (at : ℕ) (it : LogRow) → slice_get rows at ≡ Some it → slice_get (rows ++ others) at ≡ Some it
in_front [] others at it is = absurd (cc is)
in_front (row ∷ rows) others zero it is = is
in_front (row ∷ rows) others (suc at) it is = in_front rows others at it is

behind_front : (rows others : List LogRow) (at : ℕ) (it : LogRow) → slice_get others at ≡ Some it → (place : ℕ) × (slice_get (rows ++ others) place ≡ Some it)
behind_front [] others at it is = (at, is)
behind_front (row ∷ rows) others at it is = let rest = behind_front rows others at it is in (suc rest.0, rest.1)

in_all : (logs : List (List LogRow)) (index : ℕ) (rows : List LogRow) (at : ℕ) (it : LogRow) → slice_get logs index ≡ Some rows → slice_get rows at ≡ Some it → (place : ℕ) × (slice_get (all_rows logs) place ≡ Some it)
in_all [] index rows at it log there = absurd (cc log)
in_all (first ∷ logs) zero rows at it log there =
    let same : first ≡ rows = cc log in
    (at, in_front first (all_rows logs) at it (subst (λ (rs : List LogRow). slice_get rs at ≡ Some it) (sym same) there))
in_all (first ∷ logs) (suc index) rows at it log there =
    let rest = in_all logs index rows at it log there in
    behind_front first (all_rows logs) rest.0 it rest.1

-- ---- a number that stands once is that of one row
stands : (all : List LogRow) (at : ℕ) (it : LogRow) → slice_get all at ≡ Some it → 1 ≤ times it.number (numbers_of all)
stands [] at it is = absurd (cc is)
stands (row ∷ all) zero it is =
    let same : row ≡ it = cc is in
    let own = times_cons it.number row.number (numbers_of all) in
    let one = same_of row.number it.number true (eq-eqb row.number it.number (ap (λ (r : LogRow). r.number) same)) in
    omega (arith, own, one)
stands (row ∷ all) (suc at) it is =
    let rest = stands all at it is in
    let own = times_cons it.number row.number (numbers_of all) in
    omega (arith, own, rest)

twice : (row : LogRow) (all : List LogRow) (at : ℕ) (it : LogRow) → slice_get all at ≡ Some it → row.number ≡ it.number → 2 ≤ times it.number (numbers_of (row ∷ all))
twice row all at it is same =
    let rest = stands all at it is in
    let own = times_cons it.number row.number (numbers_of all) in
    let one = same_of row.number it.number true (eq-eqb row.number it.number same) in
    omega (arith, own, one, rest)

same_row : (all : List LogRow) (one other : ℕ) (it row : LogRow) → slice_get all one ≡ Some it → slice_get all other ≡ Some row → it.number ≡ row.number → times row.number (numbers_of all) ≤ 1 → it ≡ row
same_row [] one other it row here there same once = absurd (cc here)
same_row (first ∷ all) zero zero it row here there same once = cc (here, there)
same_row (first ∷ all) zero (suc other) it row here there same once =
    let own : first ≡ it = cc here in
    let more = twice first all other row there (ap (λ (r : LogRow). r.number) own ∙ same) in
    absurd (omega (arith, more, once))
same_row (first ∷ all) (suc one) zero it row here there same once =
    let own : first ≡ row = cc there in
    let more = twice first all one it here (ap (λ (r : LogRow). r.number) own ∙ sym same) in
    let at_row = subst (λ (n : ℕ). 2 ≤ times n (numbers_of (first ∷ all))) same more in
    absurd (omega (arith, at_row, once))
same_row (first ∷ all) (suc one) (suc other) it row here there same once =
    let own = times_cons row.number first.number (numbers_of all) in
    same_row all one other it row here there same (omega (arith, own, once))

-- ---- sums over rows
sum_of_numbers : (weight : ℕ → ℕ) (all : List LogRow) → sum_by weight (numbers_of all) ≡ sum_by (λ (it : LogRow). weight it.number) all
sum_of_numbers weight [] = refl
sum_of_numbers weight (it ∷ all) =
    let here = sum_by-cons weight it.number (numbers_of all) in
    let there = sum_by-cons (λ (r : LogRow). weight r.number) it all in
    let rest = sum_of_numbers weight all in
    omega (arith, here, there, rest)

sum_alike : (one other : LogRow → ℕ) (all : List LogRow) → ((at : ℕ) (it : LogRow) → slice_get all at ≡ Some it → one it ≡ other it) → sum_by one all ≡ sum_by other all
sum_alike one other [] alike = refl
sum_alike one other (it ∷ all) alike =
    let here = sum_by-cons one it all in
    let there = sum_by-cons other it all in
    let rest = sum_alike one other all (λ at row is. alike (suc at) row is) in
    let own = alike 0 it refl in
    omega (arith, here, there, rest, own)

sum_none : (weight : LogRow → ℕ) (all : List LogRow) → ((at : ℕ) (it : LogRow) → slice_get all at ≡ Some it → weight it ≡ 0) → sum_by weight all ≡ 0
sum_none weight [] none = refl
sum_none weight (it ∷ all) none =
    let here = sum_by-cons weight it all in
    let rest = sum_none weight all (λ at row is. none (suc at) row is) in
    let own = none 0 it refl in
    omega (arith, here, rest, own)

sum_from_front : (weight : ℕ → ℕ) (bound : ℕ) → sum_to weight (suc bound) ≡ weight 0 + sum_to (λ i. weight (suc i)) bound
sum_from_front weight zero = omega arith
sum_from_front weight (suc bound) = let rest = sum_from_front weight bound in omega (arith, rest)

sum_along : (value : Outcome → ℕ) (outcomes : List Outcome) (weight : ℕ → ℕ) → ((at : ℕ) (outcome : Outcome) → slice_get outcomes at ≡ Some outcome → weight at ≡ value outcome) → sum_to weight (length outcomes) ≡ sum_by value outcomes
sum_along value [] weight own = refl
sum_along value (outcome ∷ outcomes) weight own =
    let front = sum_from_front weight (length outcomes) in
    let here = sum_by-cons value outcome outcomes in
    let rest = sum_along value outcomes (λ i. weight (suc i)) (λ at it is. own (suc at) it is) in
    let first = own 0 outcome refl in
    omega (arith, front, here, rest, first)

-- ---- a worker's part
abbrev part_of : ℕ → Outcome → ℕ
part_of worker outcome = if outcome.worker == worker then length outcome.points else 0

own_part : (worker : ℕ) (outcome : Outcome) → outcome.worker ≡ worker → part_of worker outcome ≡ length outcome.points
own_part worker outcome is = ap (λ (b : Bool). if b then length outcome.points else 0) (eq-eqb outcome.worker worker is)

other_part : (worker : ℕ) (outcome : Outcome) → outcome.worker ≢ worker → part_of worker outcome ≡ 0
other_part worker outcome apart = elim (eqb_tells outcome.worker worker) [
  | inl told ↦ absurd (apart told.1)
  | inr told ↦ ap (λ (b : Bool). if b then length outcome.points else 0) told.0
]

part_least : (b : Bool) (points : ℕ) → (if b then points else 0) ≤ points
part_least true points = omega arith
part_least false points = omega arith

pub few_visits : (worker most : ℕ) (outcomes : List Outcome) → Each (λ (outcome : Outcome). length outcome.points ≤ most) outcomes → visits_by worker outcomes ≤ length outcomes * most
few_visits worker most [] each = omega arith
few_visits worker most (outcome ∷ outcomes) each =
    let front = sum_by-cons (part_of worker) outcome outcomes in
    let own = part_least (outcome.worker == worker) (length outcome.points) in
    let least = each.0 in
    let rest = few_visits worker most outcomes each.1 in
    let more : length (outcome ∷ outcomes) * most ≡ most + length outcomes * most = grind arith in
    omega (arith, front, own, least, rest, more)

pub both_visits : (worker : ℕ) (earlier outcomes : List Outcome) → visits_by worker (earlier ++ outcomes) ≡ visits_by worker earlier + visits_by worker outcomes
both_visits worker earlier outcomes = sum_by-append (part_of worker) earlier outcomes

-- the rows of the log at a place are those of the worker with that number, counted from one on
abbrev pub AreBy : ℕ → List (List LogRow) → Type 0
AreBy first logs = (index : ℕ) (rows : List LogRow) → slice_get logs index ≡ Some rows → (at : ℕ) (it : LogRow) → slice_get rows at ≡ Some it → it.outcome.worker ≡ first + index

abbrev part_in : ℕ → List LogRow → ℕ
part_in worker all = sum_by (λ (it : LogRow). part_of worker it.outcome) all

later_none : (worker first : ℕ) (logs : List (List LogRow)) → AreBy first logs → worker < first → part_in worker (all_rows logs) ≡ 0
later_none worker first [] by less = refl
later_none worker first (rows ∷ logs) by less =
    let both = sum_by-append (λ (it : LogRow). part_of worker it.outcome) rows (all_rows logs) in
    let own = sum_none (λ (it : LogRow). part_of worker it.outcome) rows (λ at it is. other_part worker it.outcome (λ same. let number = by 0 rows refl at it is in absurd (omega (arith, same, number, less)))) in
    let rest = later_none worker (suc first) logs (λ index rs log at it is. (let number = by (suc index) rs log at it is in omega (arith, number))) (omega (arith, less)) in
    omega (arith, both, own, rest)

own_rows : (first at : ℕ) (logs : List (List LogRow)) (rows : List LogRow) → AreBy first logs → slice_get logs at ≡ Some rows → part_in (first + at) (all_rows logs) ≡ points_in rows
own_rows first at [] rows by log = absurd (cc log)
own_rows first zero (own ∷ logs) rows by log =
    let worker = first + 0 in
    let same : own ≡ rows = cc log in
    let both = sum_by-append (λ (it : LogRow). part_of worker it.outcome) own (all_rows logs) in
    let here = sum_alike (λ (it : LogRow). part_of worker it.outcome) points_of own (λ at it is. own_part worker it.outcome (by 0 own refl at it is)) in
    let rest = later_none worker (suc first) logs (λ index rs there at it is. (let number = by (suc index) rs there at it is in omega (arith, number))) (omega arith) in
    let is : points_in own ≡ points_in rows = ap points_in same in
    omega (arith, both, here, rest, is)
own_rows first (suc at) (others ∷ logs) rows by log =
    let worker = first + suc at in
    let both = sum_by-append (λ (it : LogRow). part_of worker it.outcome) others (all_rows logs) in
    let none = sum_none (λ (it : LogRow). part_of worker it.outcome) others (λ place it is. other_part worker it.outcome (λ same. let number = by 0 others refl place it is in absurd (omega (arith, same, number)))) in
    let rest = own_rows (suc first) at logs rows (λ index rs there place it is. (let number = by (suc index) rs there place it is in omega (arith, number))) log in
    let renamed : part_in (suc first + at) (all_rows logs) ≡ part_in worker (all_rows logs) = ap (λ (n : ℕ). part_in n (all_rows logs)) (omega arith) in
    omega (arith, both, none, rest, renamed)

-- THE OUTCOMES OF A ROUND tell as many visits of a worker as its log has points
module _ (logs : List (List LogRow)) (outcomes : List Outcome) (once : HasEachBelow (length outcomes) (flat_map numbers_of logs)) (placed : ArePlaced logs outcomes) where
  once_each : HasEachBelow (length outcomes) (numbers_of (all_rows logs))
  once_each = subst (HasEachBelow (length outcomes)) (numbers_all logs) once

  nobody : Outcome
  nobody = walked_by 0 []

  at_number : (worker at : ℕ) (it : LogRow) → slice_get (all_rows logs) at ≡ Some it → part_of worker (get_or outcomes it.number nobody) ≡ part_of worker it.outcome
  at_number worker at it is =
      let some = stands (all_rows logs) at it is in
      let told = once_each it.number in
      let within = below_once (length outcomes) it.number (omega (arith, some, told)) in
      let there = slice_get-get_or outcomes it.number nobody within in
      let row = placed it.number (get_or outcomes it.number nobody) there in
      let found = in_all logs row.index row.rows row.at row.it row.log row.there in
      let few : times row.it.number (numbers_of (all_rows logs)) ≤ 1 = at_most row.it.number in
      let same = same_row (all_rows logs) at found.0 it row.it is found.1 (sym row.number) few in
      ap (part_of worker) (sym row.same ∙ ap (λ (r : LogRow). r.outcome) (sym same))
    where
      at_most : (number : ℕ) → times number (numbers_of (all_rows logs)) ≤ 1
      at_most number = let told = once_each number in subst (λ (n : ℕ). n ≤ 1) (sym told) (less number)
        where
          less : (n : ℕ) → once_below (length outcomes) n ≤ 1
          less n = one_or_none (nat_lt n (length outcomes))
            where
              one_or_none : (b : Bool) → (if b then 1 else 0) ≤ 1
              one_or_none true = omega arith
              one_or_none false = omega arith

  pub told_visits : (at : ℕ) (rows : List LogRow) → AreBy 1 logs → slice_get logs at ≡ Some rows → visits_by (at + 1) outcomes ≡ points_in rows
  told_visits at rows by log =
      let worker = 1 + at in
      let weight : ℕ → ℕ = λ n. part_of worker (get_or outcomes n nobody) in
      let along = sum_along (part_of worker) outcomes weight (λ place outcome is. ap (part_of worker) (got place outcome is)) in
      let sums = sums_once weight (length outcomes) (numbers_of (all_rows logs)) once_each in
      let numbers = sum_of_numbers weight (all_rows logs) in
      let rows_all = sum_alike (λ (it : LogRow). weight it.number) (λ (it : LogRow). part_of worker it.outcome) (all_rows logs) (at_number worker) in
      let own = own_rows 1 at logs rows by log in
      let all : sum_by (part_of worker) outcomes ≡ points_in rows = omega (arith, along, sums, numbers, rows_all, own) in
      let renamed : visits_by (at + 1) outcomes ≡ sum_by (part_of worker) outcomes = ap (λ (n : ℕ). visits_by n outcomes) (omega arith) in
      renamed ∙ all
    where
      got : (place : ℕ) (outcome : Outcome) → slice_get outcomes place ≡ Some outcome → get_or outcomes place nobody ≡ outcome
      got place outcome is = get_or_from_slice_get outcomes place outcome nobody is
