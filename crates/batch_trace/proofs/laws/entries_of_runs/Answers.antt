use Rattle.batch_trace.proofs.OfRuns.{run_of}
use Rattle.batch_trace.proofs.laws.entries_of_runs.Goals as goal

pub returns : goal.returns
returns c = run_of
