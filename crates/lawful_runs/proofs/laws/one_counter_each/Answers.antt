use Rattle.std.proofs.Common.{[], subst, sym}
use Rattle.filter_state.specs.declared.edit.Edit.{Edit}
use Rattle.std.proofs.Common.{List}
use Rattle.run_report.specs.declared.record.RunRecord.{RunRecord}
use Rattle.lawful_runs.specs.declared.loaded.LoadedJob.{LoadedJob}
use Rattle.lawful_runs.specs.Given.{given_rounds}
use Rattle.lawful_runs.specs.Lawful.{IsRunWith}
use Rattle.lawful_runs.proofs.Rounds.{rounds_lawful}
use Rattle.lawful_runs.proofs.Counters.{AreCounters, are_counters}
use Rattle.lawful_runs.proofs.laws.one_counter_each.Goals as goal

its_counters : (loaded : LoadedJob) (run : RunRecord) (journal : List Edit) → IsRunWith loaded run journal → AreCounters journal run.counters
its_counters loaded run journal is =
    subst (AreCounters journal) (sym is.counters)
    (are_counters journal run.rounds (rounds_lawful loaded.job.workers (given_rounds loaded) [] [] run.rounds journal is.rounds tt))

pub returns-clause-many : goal.returns-clause-many
returns-clause-many c = λ loaded run journal is. (its_counters loaded run journal is).many

pub returns-clause-serials : goal.returns-clause-serials
returns-clause-serials c = λ loaded run journal is. (its_counters loaded run journal is).each
