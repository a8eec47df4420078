use Rattle.std.proofs.Common.{[], arith}
use Rattle.lawful_runs.specs.Given.{given_rounds}
use Rattle.lawful_runs.proofs.Rounds.{rounds_lawful, rounds_counted}
use Rattle.lawful_runs.proofs.OneJournal.{one_of_job}
use Rattle.lawful_runs.proofs.laws.one_journal.Goals as goal

pub returns-clause-lawful : goal.returns-clause-lawful
returns-clause-lawful c = λ loaded run journal is. rounds_lawful loaded.job.workers (given_rounds loaded) [] [] run.rounds journal is.rounds tt

pub returns-clause-each_once : goal.returns-clause-each_once
returns-clause-each_once c = λ loaded run journal is.
    let counted = rounds_counted loaded.job.workers (given_rounds loaded) [] [] run.rounds journal is.rounds in
    omega (arith, counted)

pub returns-clause-one : goal.returns-clause-one
returns-clause-one c = λ loaded run journal other job is again. one_of_job loaded run.rounds journal other job is.rounds again.rounds
