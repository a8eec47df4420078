use Rattle.std.proofs.Common.{◌∙◌, ◌+◌, ◌++◌, List, take, sym, ap, subst, arith}
use Rattle.run_report.specs.declared.outcomes.Outcome.{Outcome}
use Rattle.run_report.specs.declared.rounds.RoundRecord.{RoundRecord}
use Rattle.lawful_runs.specs.Lawful.{outcomes_in}
use Rattle.job_rounds.specs.Counted.{AreCounted, AreOfRun}
use Rattle.job_rounds.proofs.Tallied.{rounds_taken, some_of_run}
use Rattle.job_rounds.proofs.counting.count_rounds.Goals as goal

pub add_round-requires : goal.add_round-requires
add_round-requires c =
    let more = rounds_taken c.args.rounds.now c.loop-round.round-index c.round-item.result (omega arith)
    ∙ ap (λ (round : RoundRecord). outcomes_in (take c.loop-round.round-index c.args.rounds.now) ++ round.outcomes) (sym c.round-item.is) in (
      outcomes_in (take c.loop-round.round-index c.args.rounds.now),
      c.loop-round.invariant,
      subst AreOfRun more (some_of_run c.args.rounds.now (c.loop-round.round-index + 1) c.requires),
    )

pub loop-round-preserved : goal.loop-round-preserved
loop-round-preserved c =
    let more = rounds_taken c.args.rounds.now c.loop-round.round-index c.round-item.result (omega arith)
    ∙ ap (λ (round : RoundRecord). outcomes_in (take c.loop-round.round-index c.args.rounds.now) ++ round.outcomes) (sym c.round-item.is) in
    subst (λ (os : List Outcome). AreCounted os c.add_round.new.counts) (sym more)
    (c.in_ok-add_round.ensures (outcomes_in (take c.loop-round.round-index c.args.rounds.now)) c.loop-round.invariant
    (subst AreOfRun more (some_of_run c.args.rounds.now (c.loop-round.round-index + 1) c.requires)))
