use Rattle.report_laws.proofs.OfWholePaths.Reached.{run_of_path}
use Rattle.report_laws.proofs.OfWholePaths.Completing.{completes}
use Rattle.report_laws.proofs.whole_paths.laws.ends_of_paths.Goals as goal

pub returns-clause-run : goal.returns-clause-run
returns-clause-run c = run_of_path

pub returns-clause-completion : goal.returns-clause-completion
returns-clause-completion c = λ loaded stand lines is path.
    let it = completes loaded stand lines is path in (it.more, it.run, it.journal, it.path)
