use Rattle.std.proofs.Common.{[], length}
use Rattle.lawful_runs.specs.Given.{given_rounds}
use Rattle.lawful_runs.specs.Lawful.{outcomes_in}
use Rattle.filter_state.proofs.Places.{each_at}
use Rattle.lawful_runs.proofs.Rounds.{IsUpTo, rounds_up_to}
use Rattle.lawful_runs.proofs.laws.points_are_of_the_journal.Goals as goal

pub returns : goal.returns
returns c = λ loaded run journal place visit point outcome is there at.
    each_at (IsUpTo (length journal)) (outcomes_in run.rounds) place outcome (rounds_up_to loaded.job.workers (given_rounds loaded) [] [] run.rounds journal is.rounds) there visit point at
