use Rattle.std.proofs.Common.{sym}
use Rattle.lawful_runs.specs.WorkedRun.{worked_run}
use Rattle.lawful_runs.proofs.WorkedRuns.{worked_lawful}
use Rattle.lawful_runs.proofs.WorkedReport.{report_is}
use Rattle.lawful_runs.proofs.cases.worked_run_is_lawful.Goals as goal

pub returns-clause-run : goal.returns-clause-run
returns-clause-run c = worked_lawful

pub returns-clause-report : goal.returns-clause-report
returns-clause-report c = (worked_run, worked_lawful, sym report_is)
