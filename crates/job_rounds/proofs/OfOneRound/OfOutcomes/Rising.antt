-- Rising numbers below a count are no more than the count.
use Rattle.std.proofs.Common.{◌≡◌, ℕ, suc, ◌+◌, ◌*◌, ◌≤◌, ◌<◌, List, [], ◌∷◌, length, length-append, Some, refl, ap, subst, arith}
use Rattle.std.specs.List.{AllByRecursion, slice_get}
use Rattle.std.proofs.lemmas.List.{length-map}
use Rattle.step_counts.specs.Seats.{Holding}
use Rattle.lawful_runs.specs.OfLogs.Logs.{LogRow}
use Rattle.worker_rounds.specs.OfLogs.Rows.{numbers_of}
use Rattle.worker_rounds.specs.Worked.{HasDrawn}
use Rattle.job_rounds.specs.OfOneRound.OfOutcomes.Draws.{AreDrawn, IsRising, deeds_of}

-- from the least of them on
pub short_from : (count least : ℕ) (rows : List LogRow) → least ≤ count → AllByRecursion (λ (x : ℕ). x < count) (numbers_of rows) → ((at : ℕ) (it : LogRow) → slice_get rows at ≡ Some it → least ≤ it.number) → IsRising rows
    → length rows + least ≤ count
short_from count least [] within below above rising = omega arith
short_from count least (row ∷ rows) within below above rising =
    let here = below.0 in
    let low : least ≤ row.number = above 0 row refl in
    let rest =
    short_from count (row.number + 1) rows (omega (arith, here)) below.1
    (λ at it is. let more = rising (suc at) it is 0 row (omega arith) refl in omega (arith, more))
    (λ at it is early other less there. rising (suc at) it is (suc early) other (omega (arith, less)) there) in
    omega (arith, rest, low)

short_seat : (count : ℕ) (deeds : List ℕ) (rows : List LogRow) → HasDrawn count deeds (numbers_of rows) → IsRising rows → length deeds ≤ count + 1
short_seat count deeds rows has rising =
    let it = has.0 in
    let below = subst (AllByRecursion (λ (x : ℕ). x < count)) has.2 has.1.below in
    let few = short_from count 0 rows (omega arith) below (λ at it is. omega arith) rising in
    let rows_many = length-map rows (λ (it : LogRow). it.number) in
    let same = ap length has.2 in
    let long = ap length has.3 in
    let both = length-append it.numbers (it.last ∷ []) in
    omega (arith, few, rows_many, same, long, both)

pub deeds_short : (count : ℕ) (seats : List (Holding ℕ)) (logs : List (List LogRow)) → AreDrawn count seats logs → AllByRecursion IsRising logs
    → length (deeds_of seats) ≤ length logs * (count + 1)
deeds_short count [] [] are rising = omega arith
deeds_short count [] (rows ∷ logs) are rising = absurd are
deeds_short count (seat ∷ seats) [] are rising = absurd are
deeds_short count (seat ∷ seats) (rows ∷ logs) are rising =
    let rest = deeds_short count seats logs are.1 rising.1 in
    let own = short_seat count seat.deeds rows are.0 rising.0 in
    let both = length-append seat.deeds (deeds_of seats) in
    omega (arith, rest, own, both)

pub as_many : (count : ℕ) (seats : List (Holding ℕ)) (logs : List (List LogRow)) → AreDrawn count seats logs → length seats ≡ length logs
as_many count [] [] are = refl
as_many count [] (rows ∷ logs) are = absurd are
as_many count (seat ∷ seats) [] are = absurd are
as_many count (seat ∷ seats) (rows ∷ logs) are = let rest = as_many count seats logs are.1 in omega (arith, rest)
