use Rattle.std.proofs.Common.{◌≡◌, ◌++◌, length, map}
use Rattle.std.specs.List.{AllByRecursion}
use Rattle.std.specs.Vec.Iter.{into_iter_items, into_iter_len}
use Rattle.job_rounds.specs.OfOneRound.Hands.{fresh_seat}
use Rattle.job_rounds.proofs.one_round.hands.hands_of.Given as goal

-- the first workers have seats, and there is one for each of the rest
abbrev pub invariant-loop-worker : goal.invariant-loop-worker
invariant-loop-worker l = record {
  left : into_iter_len l.worker-iterator ≡ length (into_iter_items l.worker-iterator);
  enough : l.seats.left ≡ length (into_iter_items l.worker-iterator);
  making : l.seats.making ≡ l.fn.seats.making;
  seats : l.seats.seats ≡ l.fn.seats.seats;
  workers : map (λ hand. hand.worker) l.hands.items ++ into_iter_items l.worker-iterator ≡ l.fn.workers.items;
  each : AllByRecursion (λ hand. hand.seat ≡ fresh_seat l.fn.seats.making l.fn.seats.seats) l.hands.items;
}
