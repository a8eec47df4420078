use Rattle.std.proofs.Common.{◌≡◌, ◌∙◌, ◌++◌, ◌∷◌, [], length, sym, ap, arith}
use Rattle.std.specs.Vec.Iter.{into_iter_items}
use Rattle.step_counts.specs.Seats.{Untaken}
use Rattle.job_rounds.specs.declared.one_round.hands.Hand.{Hand}
use Rattle.job_rounds.proofs.OfOneRound.Claimed.{worker_next, seat_next}
use Rattle.job_rounds.proofs.one_round.hands.hands_of.Goals as goal

pub loop-worker-preserved : goal.loop-worker-preserved
loop-worker-preserved c =
    let l = c.loop-worker in
    let hand : Hand = record { worker = c.in-Some.worker; seat = c.in-Some-take.seat } in
    let next = c.in-Some.ensures.steps.0 in
    let less = c.in-Some.ensures.steps.1 in
    let long = ap length next in
    let left = l.invariant.left in
    let enough = l.invariant.enough in
    let taken = c.in-Some-take.ensures.left in
    let fewer = ap (λ (s : Untaken). s.left) taken in
    let pushed : c.push.new.self.items ≡ l.hands.items ++ hand ∷ [] = c.in_ok-push.ensures.items in
    record {
      left = omega (arith, left, less, long);
      enough = omega (arith, enough, long, fewer);
      making = sym (ap (λ (s : Untaken). s.making) taken) ∙ l.invariant.making;
      seats = sym (ap (λ (s : Untaken). s.seats) taken) ∙ l.invariant.seats;
      workers = worker_next l.hands.items c.push.new.self.items hand (into_iter_items l.worker-iterator) (into_iter_items c.next.new.self) c.args.workers.items pushed next l.invariant.workers;
      each = seat_next c.args.seats.making c.args.seats.seats l.hands.items c.push.new.self.items hand l.seats pushed c.in-Some-take.ensures.seat l.invariant.making l.invariant.seats l.invariant.each;
    }
