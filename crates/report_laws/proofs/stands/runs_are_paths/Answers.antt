use Rattle.report_laws.proofs.Paths.{run_path}
use Rattle.report_laws.proofs.stands.runs_are_paths.Goals as goal

pub returns : goal.returns
returns c = run_path
