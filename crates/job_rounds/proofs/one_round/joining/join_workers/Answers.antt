use Rattle.std.proofs.Common.{◌≡◌, ◌∙◌, [], sym}
use Rattle.std.proofs.lemmas.List.{nil_from_length}
use Rattle.std.specs.Vec.Iter.{into_iter_items}
use Rattle.job_rounds.proofs.OfOneRound.Zips.{left_begun, left_next}
use Rattle.job_rounds.proofs.OfOneRound.Joins.{none_joined, one_joined, all_joined}
use Rattle.job_rounds.proofs.one_round.joining.join_workers.Goals as goal

pub loop-started-init : goal.loop-started-init
loop-started-init g c =
    let gives = c.into_iter-started-iterator.ensures.into_iter_gives in
    record {
      left = left_begun c.args.all gives.0 gives.1;
      going = λ store hook packets hands are. none_joined hands c.args.all.items (into_iter_items c.into_iter-started-iterator.result) c.new-back.result c.new-back.ensures gives.0 are;
    }

pub loop-started-preserved : goal.loop-started-preserved
loop-started-preserved g c =
    let l = c.loop-started in
    record {
      left = left_next _ _ _ _ c.in-Some.started l.invariant.left c.in-Some.ensures.steps;
      going = λ store hook packets hands are.
          one_joined hands (into_iter_items l.started-iterator) (into_iter_items c.next.new.self) l.back c.put.new.self c.in-Some.started c.end_of.result (l.invariant.going store hook packets hands are) c.in-Some.ensures.steps.0
          (c.end_of.ensures store hook packets) c.in_ok-put.ensures;
    }

pub returns : goal.returns
returns g c = λ store hook packets hands are.
    let over : into_iter_items c.loop-started.started-iterator ≡ [] = nil_from_length _ (sym c.loop-started.invariant.left ∙ c.in-None.ensures.steps.0) in
    all_joined hands (into_iter_items c.loop-started.started-iterator) c.loop-started.back (c.loop-started.invariant.going store hook packets hands are) over
