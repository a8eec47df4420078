use Rattle.std.proofs.Common.{◌≡◌, subst}
use Rattle.std.specs.List.{AllByRecursion}
use Rattle.step_counts.specs.Seats.{Untaken}
use Rattle.job_rounds.specs.declared.one_round.hands.Hand.{Hand}
use Rattle.job_rounds.specs.OfOneRound.Hands.{fresh_seat}
use Rattle.job_rounds.proofs.one_round.running.seated.Goals as goal

pub returns-clause-seats : goal.returns-clause-seats
returns-clause-seats c =
    subst (λ (left : Untaken). AllByRecursion (λ (hand : Hand). hand.seat ≡ fresh_seat left.making left.seats) c.in_ok-hands.hands.items) c.in_ok-claims.ensures
    c.in_ok-hands.ensures.seats
