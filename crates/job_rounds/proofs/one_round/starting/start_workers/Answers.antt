use Rattle.std.proofs.Common.{length}
use Rattle.std.specs.Vec.Iter.{into_iter_items}
use Rattle.job_rounds.specs.OfRoundState.Rounds.{store_name}
use Rattle.job_rounds.specs.OfOneRound.Hands.{CanWork}
use Rattle.job_rounds.proofs.OfOneRound.Zips.{left_next}
use Rattle.job_rounds.proofs.OfOneRound.Starts.{one_started}
use Rattle.job_rounds.proofs.one_round.starting.start_workers.Goals as goal

pub loop-hand-preserved : goal.loop-hand-preserved
loop-hand-preserved g c =
    let l = c.loop-hand in
    let can = CanWork (store_name c.args.round.now.store.now) c.args.round.now.claims.now (length c.args.round.now.packets.now) in
    record {
      left = left_next _ _ _ _ c.in-Some.hand l.invariant.left c.in-Some.ensures.steps;
      going = one_started {can = can} c.args.hands.items (into_iter_items l.hand-iterator) (into_iter_items c.next.new.self) l.all.items c.push.new.self.items c.in-Some.hand c.start_worker.result l.invariant.going c.in-Some.ensures.steps.0
          c.in_ok-push.ensures.items c.start_worker.ensures;
    }
