use Rattle.std.proofs.Common.{List, ◌++◌, subst, arith}
use Rattle.std.proofs.lemmas.List.{take_all}
use Rattle.run_report.specs.declared.outcomes.Outcome.{Outcome}
use Rattle.run_report.specs.Kept.{outcome_seen}
use Rattle.job_rounds.specs.Counted.{AreCounted}
use Rattle.job_rounds.proofs.Tallied.{one_short, have_room, one_more}
use Rattle.job_rounds.proofs.counting.add_round.Goals as goal

pub add-requires-clause-short : goal.add-requires-clause-short
add-requires-clause-short c = one_short c.requires.0 c.args.outcomes.now c.loop-place.place (outcome_seen c.at.result) c.requires.2 c.at.ensures

pub add-requires-clause-few : goal.add-requires-clause-few
add-requires-clause-few c = have_room c.requires.0 c.args.outcomes.now c.loop-place.place (outcome_seen c.at.result) c.loop-place.counts c.requires.2 c.at.ensures
    (c.loop-place.invariant c.requires.0 c.requires.1 c.requires.2)

pub loop-place-preserved : goal.loop-place-preserved
loop-place-preserved c = λ before counted are.
    one_more before c.args.outcomes.now c.loop-place.place (outcome_seen c.at.result) c.loop-place.counts c.add.new.self c.at.ensures (c.loop-place.invariant before counted are) c.in_ok-add.ensures

pub returns : goal.returns
returns c = λ before counted are. subst (λ (os : List Outcome). AreCounted (before ++ os) c.loop-place.counts)
    (take_all c.loop-place.place c.args.outcomes.now (omega (arith, c.len-place-end.ensures))) (c.loop-place.invariant before counted are)
