use Rattle.round_terms.specs.Files.{files_of}
use Rattle.job_rounds.specs.OfOneRound.Rounds.{AreThrough}
use Rattle.job_rounds.proofs.one_round.finishing.finish_all.Given as goal

-- the first controls are through
abbrev pub invariant-loop-done : goal.invariant-loop-done
invariant-loop-done g l =
    AreThrough (files_of g.N.RoundName.job g.N.RoundName.number) l.done l.state.events
