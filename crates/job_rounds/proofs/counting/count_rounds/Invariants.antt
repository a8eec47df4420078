use Rattle.std.proofs.Common.{take}
use Rattle.lawful_runs.specs.Lawful.{outcomes_in}
use Rattle.job_rounds.specs.Counted.{AreCounted}
use Rattle.job_rounds.proofs.counting.count_rounds.Given as goal

-- the packets of the first rounds are counted
abbrev pub invariant-loop-round : goal.invariant-loop-round
invariant-loop-round l = AreCounted (outcomes_in (take l.round-index l.rounds)) l.counts
