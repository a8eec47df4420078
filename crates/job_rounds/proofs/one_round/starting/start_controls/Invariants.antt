use Rattle.job_rounds.specs.OfOneRound.Numbers.{AreAll}
use Rattle.job_rounds.proofs.one_round.starting.start_controls.Given as goal

-- the first controls have begun
abbrev pub invariant-loop-done : goal.invariant-loop-done
invariant-loop-done g l = AreAll l.done l.all.items
