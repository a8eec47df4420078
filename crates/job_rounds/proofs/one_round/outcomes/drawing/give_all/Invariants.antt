use Rattle.std.proofs.Common.{◌≡◌, length}
use Rattle.std.specs.List.{AllByRecursion}
use Rattle.std.specs.Vec.Iter.{into_iter_items, into_iter_len}
use Rattle.job_rounds.specs.OfOneRound.OfOutcomes.Draws.{with_seats}
use Rattle.job_rounds.proofs.one_round.outcomes.drawing.give_all.Given as goal

-- with those that are left, the seat is that with all others
abbrev pub invariant-loop-seat : goal.invariant-loop-seat
invariant-loop-seat l = record {
  left : into_iter_len l.seat-iterator ≡ length (into_iter_items l.seat-iterator);
  making : l.into.making ≡ l.claims;
  others : AllByRecursion (λ seat. seat.making ≡ l.claims) (into_iter_items l.seat-iterator);
  given : with_seats (into_iter_items l.seat-iterator) l.into ≡ with_seats l.fn.others.items l.initial.into;
}
