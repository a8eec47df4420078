use Rattle.std.proofs.Common.{◌+◌, [], None, take, drop, get_or, refl, sym, ap}
use Rattle.std.proofs.lemmas.List.{take_more}
use Rattle.walk_steps.specs.Walking.{progress_of}
use Rattle.point_walks.specs.Visits.{thing_of}
use Rattle.fate_search.specs.declared.branch_points.Branch.{Branch}
use Rattle.fate_search.specs.Searched.{sought_by}
use Rattle.fate_search.proofs.Along.{leads_there, next_on, one_further, on_at}
use Rattle.fate_search.proofs.searching.walk_again.Goals as goal

pub loop-branch-init : goal.loop-branch-init
loop-branch-init g c = record {
  going = sym (ap progress_of c.begin.ensures.standing);
  along = λ turns gone. record {
    turns = [];
    through = record {
      kept = refl;
      are = tt;
      stands = c.begin.ensures.standing;
      bounds = λ question. c.begin-2.ensures (thing_of question);
    };
    leads = leads_there (sought_by (g.A.PointAnswers.answer c.args.packet.now.answers.now) c.args.packet.now) turns c.args.path.now gone;
  };
}

pub pass-requires : goal.pass-requires
pass-requires g c =
    let s = sought_by (g.A.PointAnswers.answer c.args.packet.now.answers.now) c.args.packet.now in
    let path = c.args.path.now in let place = c.loop-branch.branch-index in
    let d : Branch = record { point = 0; next = None } in
    let gone = c.requires.path in
    next_on s gone.0 (take place path) (drop (place + 1) path) (get_or path place d) c.loop-branch.walk.standing
    c.loop-branch.bounds (on_at s gone.0 path place d c.loop-branch.walk.standing c.loop-branch.bounds
    c.loop-branch-test.true (c.loop-branch.invariant.along gone.0 gone.1))

pub loop-branch-preserved : goal.loop-branch-preserved
loop-branch-preserved g c =
    let s = sought_by (g.A.PointAnswers.answer c.args.packet.now.answers.now) c.args.packet.now in
    let path = c.args.path.now in let place = c.loop-branch.branch-index in
    let d : Branch = record { point = 0; next = None } in
    record {
      going = c.in_ok-progress.ensures.going;
      along = λ turns gone. one_further s turns (take place path) (take (place + 1) path) (drop (place + 1) path)
          (get_or path place d) c.loop-branch.walk.standing c.pass.new.walk.standing c.loop-branch.bounds
          c.pass.new.bounds c.in_ok-progress.progress
          (on_at s turns path place d c.loop-branch.walk.standing c.loop-branch.bounds c.loop-branch-test.true
          (c.loop-branch.invariant.along turns gone)) (take_more path place d c.loop-branch-test.true)
          c.in_ok-progress.ensures;
    }
