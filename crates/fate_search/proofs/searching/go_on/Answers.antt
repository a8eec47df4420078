use Rattle.std.proofs.Common.{◌≤◌, sym, subst}
use Rattle.point_walks.specs.declared.at_points.Thing.{Thing}
use Rattle.point_walks.specs.Visits.{thing_of}
use Rattle.fate_search.specs.LeastPoints.{least_of}
use Rattle.fate_search.specs.Searched.{AreRaised}
use Rattle.fate_search.proofs.Taking.{took_there, took_above, asked_once}
use Rattle.fate_search.proofs.searching.go_on.Goals as goal

pub raise-requires : goal.raise-requires
raise-requires g c =
    let answers = g.A.PointAnswers.answer c.args.answers.now in let bounds = c.args.room.now.bounds in
    let v = c.step-progress.ensures.visit in let low = least_of bounds (thing_of v.question) in
    let start = asked_once answers bounds c.args.from c.args.room.now.walk.standing v.question c.requires v.asks in
    let took = took_there answers low c.args.from c.args.ceiling v.question v.answer v.point
    c.step-progress.new.visits.branch c.in-Some.branch c.in-Some.is (v.answered.2 start) in
    subst (λ (thing : Thing). least_of bounds thing ≤ c.in-Some.branch.point) (sym v.answered.1)
    (took_above answers low c.args.from c.args.ceiling v.question v.answer c.in-Some.branch.point c.in-Some.branch took)

pub returns : goal.returns
returns g c =
    let answers = g.A.PointAnswers.answer c.args.answers.now in let bounds = c.args.room.now.bounds in
    let v = c.step-progress.ensures.visit in let low = least_of bounds (thing_of v.question) in
    let start = asked_once answers bounds c.args.from c.args.room.now.walk.standing v.question c.requires v.asks in
    let took = took_there answers low c.args.from c.args.ceiling v.question v.answer v.point
    c.step-progress.new.visits.branch c.in-Some.branch c.in-Some.is (v.answered.2 start) in
    record {
      question = v.question;
      answer = v.answer;
      branch = c.in-Some.branch;
      asks = v.asks;
      took = took;
      goes = v.goes;
      raises = subst (λ (thing : Thing). AreRaised thing c.in-Some.branch.point bounds c.raise.new.self) v.answered.1
          c.in_ok-raise.ensures;
      path = c.in_ok-push.ensures.items;
      going = c.step-progress.ensures.progress;
    }
