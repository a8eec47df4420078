use Rattle.tool_run.proofs.OfQuietJobs.QuietRuns.{quiet_runs}
use Rattle.tool_run.proofs.quiet_jobs.a_batch_then_a_capture.Goals as goal

pub returns : goal.returns
returns c = quiet_runs
