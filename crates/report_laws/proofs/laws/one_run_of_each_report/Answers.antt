use Rattle.report_laws.proofs.OneRun.{one_run}
use Rattle.report_laws.proofs.laws.one_run_of_each_report.Goals as goal

pub returns : goal.returns
returns c = one_run
