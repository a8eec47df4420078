use Rattle.std.proofs.Common.{[], refl}
use Rattle.report_laws.specs.Stands.{start}
use Rattle.report_laws.proofs.OfWholePaths.Completing.{completes}
use Rattle.report_laws.proofs.OfWholePaths.Reached.{run_of_path}
use Rattle.report_laws.proofs.laws.each_job_has_a_run.Goals as goal

-- a path without a line goes on to an end
pub returns : goal.returns
returns c = λ loaded is.
    let it = completes loaded start [] is refl in
    (it.run, (it.journal, (run_of_path loaded it.run it.journal it.more it.path).0))
