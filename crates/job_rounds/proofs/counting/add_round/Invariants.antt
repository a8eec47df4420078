use Rattle.std.proofs.Common.{List, ◌++◌, take}
use Rattle.run_report.specs.declared.outcomes.Outcome.{Outcome}
use Rattle.job_rounds.specs.Counted.{AreCounted, AreOfRun}
use Rattle.job_rounds.proofs.counting.add_round.Given as goal

-- the first packets of the round are counted too
abbrev pub invariant-loop-place : goal.invariant-loop-place
invariant-loop-place l = (before : List Outcome) → AreCounted before l.initial.counts → AreOfRun (before ++ l.outcomes) → AreCounted (before ++ take l.place l.outcomes) l.counts
