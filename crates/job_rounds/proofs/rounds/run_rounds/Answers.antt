use Rattle.std.proofs.Common.{◌≡◌, ◌∙◌, ◌+◌, ◌-◌, ℕ, length, ap, subst, arith}
use Rattle.round_terms.specs.Hearing.{EarView}
use Rattle.job_rounds.specs.OfRoundState.Rounds.{store_name}
use Rattle.job_rounds.specs.SoFar.{IsSoFar, HasRoom}
use Rattle.job_rounds.proofs.rounds.run_rounds.Goals as goal

pub run_next-requires-clause-so_far : goal.run_next-requires-clause-so_far
run_next-requires-clause-so_far g c κs within =
    let so_far = c.requires.so_far in
    let same : c.loop-over.over ≡ c.loop-over.over + 1 - 1 = omega arith in
    let both : (first : EarView) × IsSoFar g.E.Ear.name g.E.Ear.heard g.E.Ear.spare (store_name c.args.store.now) c.args.job.now first (c.loop-over.over + 1 - 1) c.loop-over.course = (
      so_far.0,
      subst (λ (n : ℕ). IsSoFar g.E.Ear.name g.E.Ear.heard g.E.Ear.spare (store_name c.args.store.now) c.args.job.now so_far.0 n c.loop-over.course) same
          (c.loop-over.invariant.so_far so_far.0 so_far.1),
    ) in
    both

pub loop-over-preserved : goal.loop-over-preserved
loop-over-preserved g c =
    let many = ap length c.as_slice.ensures in
    let same : c.loop-over.over ≡ c.loop-over.over + 1 - 1 = omega arith in
    let left : length c.args.job.now.job.rounds - c.loop-over.over ≡ length c.args.job.now.job.rounds - (c.loop-over.over + 1) + 1 = omega (arith, many, c.requires.loaded.rounds) in
    record {
      so_far = λ first far. c.in_ok-course.ensures.further first
          (subst (λ (n : ℕ). IsSoFar g.E.Ear.name g.E.Ear.heard g.E.Ear.spare (store_name c.args.store.now) c.args.job.now first n c.loop-over.course) same (c.loop-over.invariant.so_far first far));
      room = c.in_ok-course.ensures.room (length c.args.job.now.job.rounds - (c.loop-over.over + 1)) (subst (λ (n : ℕ). HasRoom n c.loop-over.course.past) left c.loop-over.invariant.room);
      same_tender = c.run_next.ensures.tender ∙ c.loop-over.invariant.same_tender;
    }

pub returns-clause-over : goal.returns-clause-over
returns-clause-over g c = λ first far.
    let many = ap length c.as_slice.ensures in
    let all : c.loop-over.over ≡ length c.args.job.now.job.rounds = omega (arith, many, c.requires.loaded.rounds) in
    subst (λ (n : ℕ). IsSoFar g.E.Ear.name g.E.Ear.heard g.E.Ear.spare (store_name c.args.store.now) c.args.job.now first n c.loop-over.course) all (c.loop-over.invariant.so_far first far)
