use Rattle.std.proofs.Common.{◌∙◌, sym, arith, true, false, inl, inr, ap, ◌≡◌, ◌+◌, ◌<◌, ◌≤◌, Some, Ok, length, get_or, subst}
use Rattle.std.proofs.lemmas.Grind.{common_steps}
use Rattle.walk_rules.specs.Questions.{heads_of}
use Rattle.walk_rules.specs.Steps.{begun, question_of}
use Rattle.point_walks.specs.declared.fault.PointFault.TheVariants as faults
use Rattle.point_walks.specs.declared.fault.PointFault.{PointFault}
use Rattle.point_walks.specs.Faults.{IsWalkFault}
use Rattle.point_walks.specs.Over.{answered_at}
use Rattle.point_walks.specs.Visits.{visits_over}
use Rattle.point_walks.proofs.Moves.{went_on, got_stuck, ended_early, all_taken, still_going, is_over, is_going, knows_all, knows_actions}
use Rattle.point_walks.proofs.Falling.{none_falls, never_both_fall}
use Rattle.point_walks.proofs.Faulty.{inside_bounds, steady_stop, steady_all}
use Rattle.point_walks.proofs.Within.{lawful_within}
use Rattle.point_walks.proofs.Visited.{points_are}
use Rattle.point_walks.proofs.Going.{never_more, latest_more, falls, all_lawful}
use Rattle.point_walks.proofs.walking.walk_at.Goals as goal

pub returns-then-not-allow-clause-no : goal.returns-then-not-allow-clause-no
returns-then-not-allow-clause-no g c = λ fault is end it.
    let answers = g.A.PointAnswers.answer c.args.answers.now in
    let first = begun c.args.hook c.args.bytes.now in
    let within = lawful_within c.args.bounds (visits_over answers first c.args.points.now) c.args.points.now (points_are answers first end c.args.points.now it.stands) it.lawful in
    cc (sym c.if-not-allow.true ∙ c.allow.ensures ∙ within)

pub loop-place-init : goal.loop-place-init
loop-place-init g c = record {
  within = omega arith;
  stands = ap (λ st. Some st) (sym c.begin.ensures.standing);
  going = (heads_of c.args.hook, ap question_of c.begin.ensures.standing);
  never = none_falls;
  latest = λ thing. c.begin-2.ensures thing;
  bounds = sym c.allow.ensures ∙ c.if-not-allow.false;
}

pub step-progress-requires-clause-known : goal.step-progress-requires-clause-known
step-progress-requires-clause-known g c = record { masks = knows_all c.loop-place.walk.heads; actions = knows_actions c.loop-place.walk.actions }

pub returns-then-not-allow-clause-fault : goal.returns-then-not-allow-clause-fault
returns-then-not-allow-clause-fault g c = λ fault is.
    let same : c.fault.result ≡ fault = cc is in
    inl (c.fault.ensures ∙ ap (λ (f : PointFault). Some f) same)

pub returns-then-visits-clause-fault : goal.returns-then-visits-clause-fault
returns-then-visits-clause-fault g c = λ fault is.
    let visit = c.step-progress.ensures.visit in
    let answers = g.A.PointAnswers.answer c.args.answers.now in
    elim visit.answered [
      | inl it ↦ (let e : false ≡ true = sym (ap (λ v. v.failed) it.0) ∙ c.if-visits.true in absurd (cc e))
      | inr it ↦
          let same : faults.Gone c.step-progress.new.visits.thing ≡ fault = cc is in
          let first = begun c.args.hook c.args.bytes.now in
          let inv = c.loop-place.invariant in
          inr (
            inside_bounds c.args.bounds c.args.points.now inv.bounds,
            subst (IsWalkFault answers first c.args.points.now) same (
              steady_stop answers first c.loop-place.walk.standing c.args.points.now c.loop-place.place c.loop-place-test.true inv.stands (ap (answered_at answers (get_or c.args.points.now c.loop-place.place 0)) visit.asks ∙ it.1) inv.never,
              record {
                count = c.loop-place.place;
                stand = c.loop-place.walk.standing;
                question = visit.question;
                less = c.loop-place-test.true;
                stands = inv.stands;
                asks = visit.asks;
                its = ap (λ v. v.thing) it.0;
                none = it.1;
              },
            ),
          )
    ]

pub returns-then-visits-clause-no : goal.returns-then-visits-clause-no
returns-then-visits-clause-no g c =
    let visit = c.step-progress.ensures.visit in
    let answers = g.A.PointAnswers.answer c.args.answers.now in
    elim visit.answered [
      | inl it ↦ (let e : false ≡ true = sym (ap (λ v. v.failed) it.0) ∙ c.if-visits.true in absurd (cc e))
      | inr it ↦ λ fault is end walk. got_stuck answers (begun c.args.hook c.args.bytes.now) c.loop-place.walk.standing end c.args.points.now c.loop-place.place 0
          c.loop-place-test.true c.loop-place.invariant.stands (ap (answered_at answers (get_or c.args.points.now c.loop-place.place 0)) visit.asks ∙ it.1) walk.stands
    ]

pub returns-then-not-rises-clause-fault : goal.returns-then-not-rises-clause-fault
returns-then-not-rises-clause-fault g c =
    let visit = c.step-progress.ensures.visit in
    let answers = g.A.PointAnswers.answer c.args.answers.now in
    let first = begun c.args.hook c.args.bytes.now in
    let inv = c.loop-place.invariant in
    elim visit.answered [
      | inl it ↦ λ fault is.
          let same : faults.Falling ≡ fault = cc is in
          inr (
            inside_bounds c.args.bounds c.args.points.now inv.bounds,
            subst (IsWalkFault answers first c.args.points.now) same
                (falls answers first c.args.points.now c.loop-place.place c.loop-place.walk.standing visit.question visit.answer c.loop-place-test.true inv.stands visit.asks it.1
                c.loop-place.latest c.step-progress.new.visits.thing (ap (λ v. v.thing) it.0) inv.latest c.step-progress.new.self.standing
                (went_on answers first c.loop-place.walk.standing c.step-progress.new.self.standing c.args.points.now c.loop-place.place 0 visit.question visit.answer
                c.loop-place-test.true inv.stands visit.asks it.1 visit.goes)
                (sym c.in_ok-rises.ensures.rises ∙ c.if-not-rises.true)),
          )
      | inr it ↦ (let e : true ≡ false = sym (ap (λ v. v.failed) it.0) ∙ c.if-visits.false in absurd (cc e))
    ]

pub returns-then-not-rises-clause-no : goal.returns-then-not-rises-clause-no
returns-then-not-rises-clause-no g c =
    let visit = c.step-progress.ensures.visit in
    let answers = g.A.PointAnswers.answer c.args.answers.now in
    let first = begun c.args.hook c.args.bytes.now in
    let inv = c.loop-place.invariant in
    elim visit.answered [
      | inl it ↦ λ fault is end walk. never_both_fall (visits_over answers first c.args.points.now)
          (falls answers first c.args.points.now c.loop-place.place c.loop-place.walk.standing visit.question visit.answer c.loop-place-test.true inv.stands visit.asks it.1
          c.loop-place.latest c.step-progress.new.visits.thing (ap (λ v. v.thing) it.0) inv.latest c.step-progress.new.self.standing
          (went_on answers first c.loop-place.walk.standing c.step-progress.new.self.standing c.args.points.now c.loop-place.place 0 visit.question visit.answer
          c.loop-place-test.true inv.stands visit.asks it.1 visit.goes)
          (sym c.in_ok-rises.ensures.rises ∙ c.if-not-rises.true)) walk.lawful.never_fall
      | inr it ↦ (let e : true ≡ false = sym (ap (λ v. v.failed) it.0) ∙ c.if-visits.false in absurd (cc e))
    ]

pub returns-then-place-points-clause-yes : goal.returns-then-place-points-clause-yes
returns-then-place-points-clause-yes g c =
    let visit = c.step-progress.ensures.visit in
    let answers = g.A.PointAnswers.answer c.args.answers.now in
    let first = begun c.args.hook c.args.bytes.now in
    let inv = c.loop-place.invariant in
    elim visit.answered [
      | inl it ↦ λ is.
          let last = c.if-place-points.true in
          let all : length c.args.points.now ≤ c.loop-place.place + 1 = grind (arith, common_steps) in
          let goes = went_on answers first c.loop-place.walk.standing c.step-progress.new.self.standing c.args.points.now c.loop-place.place 0 visit.question visit.answer
          c.loop-place-test.true inv.stands visit.asks it.1 visit.goes in
          let stands = all_taken answers first c.step-progress.new.self.standing c.args.points.now (c.loop-place.place + 1) all goes in
          record {
            stands = stands;
            over = is_over c.step-progress.new.self.standing (sym c.in-Ended.is ∙ c.step-progress.ensures.progress);
            lawful = all_lawful answers first c.step-progress.new.self.standing c.args.bounds c.args.points.now (c.loop-place.place + 1) all stands inv.bounds
                (never_more answers first c.args.points.now c.loop-place.place c.loop-place.walk.standing visit.question visit.answer c.loop-place-test.true inv.stands visit.asks it.1
                c.loop-place.latest c.step-progress.new.visits.thing (ap (λ v. v.thing) it.0) inv.latest (sym c.in_ok-rises.ensures.rises ∙ c.if-not-rises.false) inv.never);
          }
      | inr it ↦ (let e : true ≡ false = sym (ap (λ v. v.failed) it.0) ∙ c.if-visits.false in absurd (cc e))
    ]

pub returns-in-Ended-clause-fault : goal.returns-in-Ended-clause-fault
returns-in-Ended-clause-fault g c =
    let visit = c.step-progress.ensures.visit in
    let answers = g.A.PointAnswers.answer c.args.answers.now in
    let first = begun c.args.hook c.args.bytes.now in
    elim visit.answered [
      | inl it ↦ λ fault is.
          let same : faults.TooMany ≡ fault = cc is in
          let less : c.loop-place.place + 1 < length c.args.points.now = grind (arith, common_steps) in
          let inv = c.loop-place.invariant in
          let goes = went_on answers first c.loop-place.walk.standing c.step-progress.new.self.standing c.args.points.now c.loop-place.place 0 visit.question visit.answer
          c.loop-place-test.true inv.stands visit.asks it.1 visit.goes in
          let over = is_over c.step-progress.new.self.standing (sym c.in-Ended.is ∙ c.step-progress.ensures.progress) in
          let never = never_more answers first c.args.points.now c.loop-place.place c.loop-place.walk.standing visit.question visit.answer c.loop-place-test.true inv.stands visit.asks it.1
          c.loop-place.latest c.step-progress.new.visits.thing (ap (λ v. v.thing) it.0) inv.latest (sym c.in_ok-rises.ensures.rises ∙ c.if-not-rises.false) inv.never in
          inr (
            inside_bounds c.args.bounds c.args.points.now inv.bounds,
            subst (IsWalkFault answers first c.args.points.now) same (
              steady_stop answers first c.step-progress.new.self.standing c.args.points.now (c.loop-place.place + 1) less goes (ap (answered_at answers (get_or c.args.points.now (c.loop-place.place + 1) 0)) over) never,
              record { count = c.loop-place.place + 1; stand = c.step-progress.new.self.standing; less = less; stands = goes; over = over },
            ),
          )
      | inr it ↦ (let e : true ≡ false = sym (ap (λ v. v.failed) it.0) ∙ c.if-visits.false in absurd (cc e))
    ]

pub returns-in-Ended-clause-no : goal.returns-in-Ended-clause-no
returns-in-Ended-clause-no g c =
    let visit = c.step-progress.ensures.visit in
    let answers = g.A.PointAnswers.answer c.args.answers.now in
    let first = begun c.args.hook c.args.bytes.now in
    elim visit.answered [
      | inl it ↦ λ fault is end walk.
          let less : c.loop-place.place + 1 < length c.args.points.now = grind (arith, common_steps) in
          ended_early answers first c.step-progress.new.self.standing end c.args.points.now (c.loop-place.place + 1) less
          (went_on answers first c.loop-place.walk.standing c.step-progress.new.self.standing c.args.points.now c.loop-place.place 0 visit.question visit.answer
          c.loop-place-test.true c.loop-place.invariant.stands visit.asks it.1 visit.goes) (is_over c.step-progress.new.self.standing (sym c.in-Ended.is ∙ c.step-progress.ensures.progress)) walk.stands
      | inr it ↦ (let e : true ≡ false = sym (ap (λ v. v.failed) it.0) ∙ c.if-visits.false in absurd (cc e))
    ]

pub loop-place-preserved : goal.loop-place-preserved
loop-place-preserved g c =
    let visit = c.step-progress.ensures.visit in
    let answers = g.A.PointAnswers.answer c.args.answers.now in
    let first = begun c.args.hook c.args.bytes.now in
    let inv = c.loop-place.invariant in
    elim visit.answered [
      | inl it ↦ record {
        within = grind (arith, common_steps);
        stands = went_on answers first c.loop-place.walk.standing c.step-progress.new.self.standing c.args.points.now c.loop-place.place 0 visit.question visit.answer
            c.loop-place-test.true inv.stands visit.asks it.1 visit.goes;
        going = is_going c.step-progress.new.self.standing (sym c.in_default.is ∙ c.step-progress.ensures.progress);
        never = never_more answers first c.args.points.now c.loop-place.place c.loop-place.walk.standing visit.question visit.answer c.loop-place-test.true inv.stands visit.asks it.1
            c.loop-place.latest c.step-progress.new.visits.thing (ap (λ v. v.thing) it.0) inv.latest (sym c.in_ok-rises.ensures.rises ∙ c.if-not-rises.false) inv.never;
        latest = latest_more answers first c.args.points.now c.loop-place.place c.loop-place.walk.standing visit.question visit.answer c.loop-place-test.true inv.stands visit.asks it.1
            c.loop-place.latest c.step-progress.new.visits.thing (ap (λ v. v.thing) it.0) inv.latest c.rise.new.self (sym c.in_ok-rises.ensures.rises ∙ c.if-not-rises.false)
            (c.rise.ensures.set (c.in_ok-rises.was ∙ ap (λ b. Ok b) c.if-not-rises.false));
        bounds = inv.bounds;
      }
      | inr it ↦ (let e : true ≡ false = sym (ap (λ v. v.failed) it.0) ∙ c.if-visits.false in absurd (cc e))
    ]

pub returns-clause-fault : goal.returns-clause-fault
returns-clause-fault g c = λ fault is.
    let answers = g.A.PointAnswers.answer c.args.answers.now in
    let same : faults.TooFew ≡ fault = cc is in
    let going = c.loop-place.invariant.going in
    let first = begun c.args.hook c.args.bytes.now in
    let all : length c.args.points.now ≤ c.loop-place.place = grind (arith, common_steps) in
    inr (
      inside_bounds c.args.bounds c.args.points.now c.loop-place.invariant.bounds,
      subst (IsWalkFault answers first c.args.points.now) same (
        steady_all answers first c.args.points.now c.loop-place.place all c.loop-place.invariant.never,
        record {
          stand = c.loop-place.walk.standing;
          question = going.0;
          stands = all_taken answers first c.loop-place.walk.standing c.args.points.now c.loop-place.place all c.loop-place.invariant.stands;
          asks = going.1;
        },
      ),
    )

pub returns-clause-no : goal.returns-clause-no
returns-clause-no g c = λ fault is end walk.
    still_going (g.A.PointAnswers.answer c.args.answers.now) (begun c.args.hook c.args.bytes.now) c.loop-place.walk.standing end c.args.points.now c.loop-place.place (grind (arith, common_steps))
    c.loop-place.invariant.stands c.loop-place.invariant.going walk.stands walk.over
