-- Seats that were given back into one.
use Rattle.std.proofs.Common.{◌≡◌, ◌∙◌, ℕ, ◌+◌, ◌<◌, List, [], ◌∷◌, ◌++◌, length, get_or, append_assoc, append-nil, refl, sym, ap, subst, arith}
use Rattle.std.specs.List.{AllByRecursion, remove}
use Rattle.atomic_table.specs.Seated.{TableId}
use Rattle.step_counts.specs.Seats.{Holding, with_seat, HoldsAll}
use Rattle.job_rounds.specs.OfOneRound.OfOutcomes.Draws.{IsOneSeat, AreAllSeats, with_seats, deeds_of}

shares_are : (making : TableId) (seats : ℕ) (others : List (Holding ℕ)) (into : Holding ℕ) → AllByRecursion (IsOneSeat making seats) others
    → (with_seats others into).shares ≡ into.shares + length others
shares_are making seats [] into each = omega arith
shares_are making seats (given ∷ others) into each =
    let rest = shares_are making seats others (with_seat given into) each.1 in
    let one = ap (λ (it : Holding ℕ). it.shares) each.0 in
    omega (arith, rest, one)

seats_are : (others : List (Holding ℕ)) (into : Holding ℕ) → (with_seats others into).seats ≡ into.seats
seats_are [] into = refl
seats_are (given ∷ others) into = seats_are others (with_seat given into)

making_is : (others : List (Holding ℕ)) (into : Holding ℕ) → (with_seats others into).making ≡ into.making
making_is [] into = refl
making_is (given ∷ others) into = making_is others (with_seat given into)

deeds_are : (others : List (Holding ℕ)) (into : Holding ℕ) → (with_seats others into).deeds ≡ into.deeds ++ deeds_of others
deeds_are [] into = sym (append-nil into.deeds)
deeds_are (given ∷ others) into = deeds_are others (with_seat given into) ∙ append_assoc into.deeds given.deeds (deeds_of others)

first_of_all : {X : Type 0} (xs rest : List X) (first : X) → 0 < length xs → first ≡ get_or xs 0 first → rest ≡ remove xs 0 → xs ≡ first ∷ rest
first_of_all [] rest first some is are = absurd (omega (arith, some))
first_of_all (x ∷ xs) rest first some is are = ap (λ y. y ∷ xs) (sym is) ∙ ap (λ ys. first ∷ ys) (sym are)

makings_of : (making : TableId) (seats : ℕ) (others : List (Holding ℕ)) → AllByRecursion (IsOneSeat making seats) others → AllByRecursion (λ (seat : Holding ℕ). seat.making ≡ making) others
makings_of making seats [] each = tt
makings_of making seats (seat ∷ others) each = (ap (λ (it : Holding ℕ). it.making) each.0, makings_of making seats others each.1)

-- what is known of a first seat and the others, which are all seats of a making
pub record AreApart (making : TableId) (seats : List (Holding ℕ)) (first : Holding ℕ) (others : List (Holding ℕ)) : Type 0 where
  pub whole : seats ≡ first ∷ others
  pub own : first.making ≡ making
  pub makings : AllByRecursion (λ (seat : Holding ℕ). seat.making ≡ making) others
  pub holds : HoldsAll (with_seats others first)
  pub stays : (with_seats others first).making ≡ making
  pub deeds : (with_seats others first).deeds ≡ deeds_of seats

pub apart : (making : TableId) (seats others : List (Holding ℕ)) (first : Holding ℕ) → 0 < length seats → AreAllSeats making seats → first ≡ get_or seats 0 first → others ≡ remove seats 0
    → AreApart making seats first others
apart making seats others first some all is are =
    let whole = first_of_all seats others first some is are in
    let each : AreAllSeats making (first ∷ others) = subst (AreAllSeats making) whole all in
    let shares = shares_are making (length (first ∷ others)) others first each.1 in
    let made = seats_are others first in
    let one = ap (λ (it : Holding ℕ). it.shares) each.0 in
    let many = ap (λ (it : Holding ℕ). it.seats) each.0 in
    let own = ap (λ (it : Holding ℕ). it.making) each.0 in
    record {
      whole = whole;
      own = own;
      makings = makings_of making (length (first ∷ others)) others each.1;
      holds = omega (arith, shares, made, one, many);
      stays = making_is others first ∙ own;
      deeds = deeds_are others first ∙ ap deeds_of (sym whole);
    }
