use Rattle.change_fate_laws.proofs.Runs.{run_had}
use Rattle.change_fate_laws.proofs.Recording.{run_records}
use Rattle.change_fate_laws.proofs.laws.fates_of_runs.Goals as goal

pub returns-clause-had : goal.returns-clause-had
returns-clause-had c = run_had

pub returns-clause-recorded : goal.returns-clause-recorded
returns-clause-recorded c = run_records
