-- What a draw behind all draws tells.
use Rattle.std.proofs.Common.{◌≡◌, ◌∙◌, ℕ, ◌+◌, ◌<◌, List, [], ◌∷◌, ◌++◌, length, refl, sym, ap, subst, arith}
use Rattle.std.specs.List.{AllByRecursion, flat_map}
use Rattle.step_counts.specs.Seats.{Holding, with_deed, HoldsAll}
use Rattle.step_counts.specs.Claims.{HasEachBelow}
use Rattle.step_counts.specs.Drawn.{Drawn, IsDrawnTo, numbers_in, deeds_in}
use Rattle.step_counts.proofs.EachOnce.{each_once}
use Rattle.atomic_table.specs.Seated.{TableId}
use Rattle.lawful_runs.specs.OfLogs.Logs.{LogRow}
use Rattle.worker_rounds.specs.OfLogs.Rows.{numbers_of}
use Rattle.job_rounds.specs.OfOneRound.OfOutcomes.Draws.{AreDrawn, with_seats, deeds_of}
use Rattle.job_rounds.proofs.OfOneRound.OfOutcomes.Giving.{AreApart}

-- the seats' draws, one behind the other
record Draws (count : ℕ) (seats : List (Holding ℕ)) (logs : List (List LogRow)) : Type 0 where
  all : List Drawn
  each : AllByRecursion (IsDrawnTo count) all
  deeds : deeds_of seats ≡ deeds_in all
  numbers : numbers_in all ≡ flat_map numbers_of logs
  many : length all ≡ length seats

drew : (count : ℕ) (seats : List (Holding ℕ)) (logs : List (List LogRow)) → AreDrawn count seats logs → Draws count seats logs
drew count [] [] are = record { all = []; each = tt; deeds = refl; numbers = refl; many = refl }
drew count [] (rows ∷ logs) are = absurd are
drew count (seat ∷ seats) [] are = absurd are
drew count (seat ∷ seats) (rows ∷ logs) are =
    let rest = drew count seats logs are.1 in
    let it = are.0.0 in
    let more = rest.many in
    record {
      all = it ∷ rest.all;
      each = (are.0.1, rest.each);
      deeds = ap (λ (ns : List ℕ). ns ++ deeds_of seats) are.0.3 ∙ ap (λ (ns : List ℕ). (it.numbers ++ it.last ∷ []) ++ ns) rest.deeds;
      numbers = ap (λ (ns : List ℕ). ns ++ numbers_in rest.all) are.0.2 ∙ ap (λ (ns : List ℕ). numbers_of rows ++ ns) rest.numbers;
      many = omega (arith, more);
    }

once_of : (count last : ℕ) (all : List Drawn) → 0 < length all → AllByRecursion (IsDrawnTo count) all → HasEachBelow (last + 1) (deeds_in all ++ last ∷ []) → HasEachBelow count (numbers_in all)
once_of count last [] some each has = absurd (omega (arith, some))
once_of count last (first ∷ others) some each has = each_once count last first others each has

pub past_all : (count last : ℕ) (seats : List (Holding ℕ)) (logs : List (List LogRow)) → 0 < length seats → AreDrawn count seats logs → HasEachBelow (last + 1) (deeds_of seats ++ last ∷ [])
    → HasEachBelow count (flat_map numbers_of logs)
past_all count last seats logs some are has =
    let it = drew count seats logs are in
    let many = it.many in
    subst (HasEachBelow count) it.numbers
    (once_of count last it.all (omega (arith, some, many)) it.each (subst (λ (ns : List ℕ). HasEachBelow (last + 1) (ns ++ last ∷ [])) it.deeds has))

-- ---- the last draw, at a seat into which all others were given back
module _ (making : TableId) (seats others : List (Holding ℕ)) (first all drawn : Holding ℕ) (it : AreApart making seats first others) (given : all ≡ with_seats others first) where
  pub all_making : all.making ≡ making
  all_making = ap (λ (seat : Holding ℕ). seat.making) given ∙ it.stays

  pub all_deeds : all.deeds ≡ deeds_of seats
  all_deeds = ap (λ (seat : Holding ℕ). seat.deeds) given ∙ it.deeds

  pub drawn_past : (last : ℕ) → drawn ≡ with_deed last all → (HoldsAll all → HasEachBelow (last + 1) drawn.deeds) → 0 < length seats
      → (count : ℕ) (logs : List (List LogRow)) → AreDrawn count seats logs → HasEachBelow count (flat_map numbers_of logs)
  drawn_past last pushed tells some count logs are =
      let holds : HoldsAll all = subst HoldsAll (sym given) it.holds in
      past_all count last seats logs some are
      (subst (HasEachBelow (last + 1)) (ap (λ (seat : Holding ℕ). seat.deeds) pushed ∙ ap (λ (ns : List ℕ). ns ++ last ∷ []) all_deeds) (tells holds))
