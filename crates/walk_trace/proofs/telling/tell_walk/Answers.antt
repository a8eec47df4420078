use Rattle.std.proofs.Common.{◌∙◌, length, refl, sym, ap, arith}
use Rattle.walk_steps.specs.Walking.{progress_of}
use Rattle.point_walks.specs.Answereds.{answered_from}
use Rattle.point_walks.proofs.Moves.{is_going}
use Rattle.trace_lines.specs.Lines.{joined, lines_before}
use Rattle.walk_trace.specs.Points.{point_at}
use Rattle.walk_trace.proofs.Going.{visits_left, asks_nothing, never_over, cut_back}
use Rattle.walk_trace.proofs.Hooks.{same_hook}
use Rattle.walk_trace.proofs.Left.{all_left, one_told, all_told}
use Rattle.walk_trace.proofs.Steps.{none_over}
use Rattle.walk_trace.proofs.Tallies.{few_more, few_all}
use Rattle.walk_trace.proofs.telling.tell_walk.Goals as goal

pub loop-progress-init : goal.loop-progress-init
loop-progress-init g c = record {
  going = sym (ap progress_of c.begin.ensures.standing);
  hook = ap (λ st. st.hook) c.begin.ensures.standing;
  most = omega arith;
  few = omega arith;
  left = all_left (g.A.PointAnswers.answer c.args.answers.now) (point_at c.args.points) c.args.told (g.N.Naming.names c.args.names.now) c.args.hook c.args.bytes.now c.begin.new.self.standing
      c.new-seen.result c.args.page.now c.args.decided.now.items c.begin.ensures.standing c.new-seen.ensures;
}

pub of-before-requires-clause-hook : goal.of-before-requires-clause-hook
of-before-requires-clause-hook g c = sym c.loop-progress.invariant.hook

pub of-before-requires-clause-visits : goal.of-before-requires-clause-visits
of-before-requires-clause-visits g c = sym c.loop-progress.invariant.left.count

pub visit_at-requires : goal.visit_at-requires
visit_at-requires g c = is_going c.loop-progress.walk.standing (sym c.in-Going.is ∙ c.loop-progress.invariant.going)

-- ---- a visit without an answer
pub returns-in_default-visit_at-clause-text : goal.returns-in_default-visit_at-clause-text
returns-in_default-visit_at-clause-text g c =
    let inv = c.loop-progress.invariant in
    cut_back c.loop-progress.page c.text-length.result.now c.tell_before.new.page c.truncate.new.self (joined (lines_before c.args.told c.loop-progress.seen c.loop-progress.walk.standing)) c.text-length.ensures
    c.in_ok-tell_before.ensures.lines c.truncate.ensures
    ∙ (all_told _ _ _ _ _ _ _ c.loop-progress.walk.standing c.loop-progress.visits c.at-point.result c.loop-progress.seen c.loop-progress.page c.loop-progress.decided.items inv.left c.at-point.ensures
    (c.visit_at.ensures.none c.in_default-visit_at.is)).lines

pub returns-in_default-visit_at-clause-decided : goal.returns-in_default-visit_at-clause-decided
returns-in_default-visit_at-clause-decided g c =
    (all_told _ _ _ _ _ _ _ c.loop-progress.walk.standing c.loop-progress.visits c.at-point.result c.loop-progress.seen c.loop-progress.page c.loop-progress.decided.items c.loop-progress.invariant.left c.at-point.ensures
    (c.visit_at.ensures.none c.in_default-visit_at.is)).decides

pub returns-in_default-visit_at-clause-few : goal.returns-in_default-visit_at-clause-few
returns-in_default-visit_at-clause-few g c =
    few_all (length c.args.decided.now.items) (length c.loop-progress.decided.items) c.loop-progress.visits c.loop-progress.invariant.few c.loop-progress.invariant.most

pub returns-in_default-visit_at-clause-end : goal.returns-in_default-visit_at-clause-end
returns-in_default-visit_at-clause-end g c = λ over.
    let inv = c.loop-progress.invariant in
    let told = all_told _ _ _ _ _ _ _ c.loop-progress.walk.standing c.loop-progress.visits c.at-point.result c.loop-progress.seen c.loop-progress.page c.loop-progress.decided.items inv.left c.at-point.ensures
    (c.visit_at.ensures.none c.in_default-visit_at.is) in
    absurd (never_over c.loop-progress.walk.standing _ told.ends (is_going c.loop-progress.walk.standing (sym c.in-Going.is ∙ inv.going)) over)

-- ---- a visit that is answered
pub overflow_add-visits : goal.overflow_add-visits
overflow_add-visits g c =
    let inv = c.loop-progress.invariant in
    let less = visits_left c.loop-progress.walk.standing c.loop-progress.visits inv.left.count (is_going c.loop-progress.walk.standing (sym c.in-Going.is ∙ inv.going)) in
    omega (arith, less)

pub loop-progress-smaller : goal.loop-progress-smaller
loop-progress-smaller g c =
    let inv = c.loop-progress.invariant in
    let less = visits_left c.loop-progress.walk.standing c.loop-progress.visits inv.left.count (is_going c.loop-progress.walk.standing (sym c.in-Going.is ∙ inv.going)) in
    omega (arith, less)

pub loop-progress-preserved : goal.loop-progress-preserved
loop-progress-preserved g c =
    let inv = c.loop-progress.invariant in
    let visit = c.in-Some.ensures.visit in
    let st = c.loop-progress.walk.standing in
    let less = visits_left st c.loop-progress.visits inv.left.count (is_going st (sym c.in-Going.is ∙ inv.going)) in
    let from = ap (λ q. answered_from q visit.answer) visit.asks ∙ visit.told in
    record {
      going = c.in-Some.ensures.progress;
      hook = ap (λ s. s.hook) visit.goes ∙ same_hook st visit.answer ∙ inv.hook;
      most = omega (arith, less);
      few = few_more c.in_ok-met.met c.loop-progress.decided.items c.put.new.decided.items (length c.args.decided.now.items) c.loop-progress.visits inv.few c.in_ok-put.ensures;
      left = one_told _ _ _ _ _ _ _ st c.visit_at.new.walk.standing c.loop-progress.visits c.at-point.result c.loop-progress.seen c.tell_before.new.seen c.loop-progress.page c.tell_before.new.page
          c.tell_visit.new.page c.loop-progress.decided.items c.put.new.decided.items visit.question visit.answer c.in_ok-met.met inv.left less c.at-point.ensures visit.asks visit.is visit.goes
          c.in_ok-tell_before.ensures.lines c.in_ok-tell_before.ensures.seen (c.in_ok-met.ensures.lines st visit.answer c.of-before.ensures from visit.goes)
          (c.in_ok-met.ensures.decided st visit.answer c.of-before.ensures from visit.goes) c.in_ok-put.ensures;
    }

-- ---- the end
pub returns-clause-text : goal.returns-clause-text
returns-clause-text g c =
    let inv = c.loop-progress.invariant in
    let over = asks_nothing c.loop-progress.walk.standing c.loop-progress.progress inv.going c.in_default.not-Going in
    (all_told _ _ _ _ _ _ _ c.loop-progress.walk.standing c.loop-progress.visits (point_at c.args.points c.loop-progress.visits) c.loop-progress.seen c.loop-progress.page c.loop-progress.decided.items inv.left refl
    (none_over (g.A.PointAnswers.answer c.args.answers.now) (point_at c.args.points c.loop-progress.visits) c.loop-progress.walk.standing over)).lines

pub returns-clause-decided : goal.returns-clause-decided
returns-clause-decided g c =
    let inv = c.loop-progress.invariant in
    let over = asks_nothing c.loop-progress.walk.standing c.loop-progress.progress inv.going c.in_default.not-Going in
    (all_told _ _ _ _ _ _ _ c.loop-progress.walk.standing c.loop-progress.visits (point_at c.args.points c.loop-progress.visits) c.loop-progress.seen c.loop-progress.page c.loop-progress.decided.items inv.left refl
    (none_over (g.A.PointAnswers.answer c.args.answers.now) (point_at c.args.points c.loop-progress.visits) c.loop-progress.walk.standing over)).decides

pub returns-clause-few : goal.returns-clause-few
returns-clause-few g c =
    few_all (length c.args.decided.now.items) (length c.loop-progress.decided.items) c.loop-progress.visits c.loop-progress.invariant.few c.loop-progress.invariant.most

pub returns-clause-end : goal.returns-clause-end
returns-clause-end g c = λ over.
    let inv = c.loop-progress.invariant in
    let nothing = asks_nothing c.loop-progress.walk.standing c.loop-progress.progress inv.going c.in_default.not-Going in
    (all_told _ _ _ _ _ _ _ c.loop-progress.walk.standing c.loop-progress.visits (point_at c.args.points c.loop-progress.visits) c.loop-progress.seen c.loop-progress.page c.loop-progress.decided.items inv.left refl
    (none_over (g.A.PointAnswers.answer c.args.answers.now) (point_at c.args.points c.loop-progress.visits) c.loop-progress.walk.standing nothing)).ends
