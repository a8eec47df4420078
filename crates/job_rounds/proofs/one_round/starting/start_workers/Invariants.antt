use Rattle.std.proofs.Common.{◌≡◌, length}
use Rattle.std.specs.Vec.Iter.{into_iter_items, into_iter_len}
use Rattle.job_rounds.specs.OfRoundState.Rounds.{store_name}
use Rattle.job_rounds.specs.OfOneRound.Hands.{CanWork}
use Rattle.job_rounds.proofs.OfOneRound.Starts.{AreStarting}
use Rattle.job_rounds.proofs.one_round.starting.start_workers.Given as goal

abbrev pub invariant-loop-hand : goal.invariant-loop-hand
invariant-loop-hand g l = record {
  left : into_iter_len l.hand-iterator ≡ length (into_iter_items l.hand-iterator);
  going : AreStarting (store_name l.round.store.now) l.round.hook l.round.packets.now (CanWork (store_name l.round.store.now) l.round.claims.now (length l.round.packets.now)) l.fn.hands.items (into_iter_items l.hand-iterator) l.all.items;
}
