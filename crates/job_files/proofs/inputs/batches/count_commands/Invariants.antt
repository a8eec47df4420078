use Rattle.std.proofs.Common.{◌≤◌, ◌-◌, length}
use Rattle.batch_run.specs.Commands.{commands_of}
use Rattle.job_files.proofs.OfInputs.Counted.{IsCounted, left_from}
use Rattle.job_files.proofs.inputs.batches.count_commands.Given as goal

abbrev pub invariant-loop-line : goal.invariant-loop-line
invariant-loop-line l = record {
  within : l.at ≤ length l.bytes;
  numbered : l.number ≤ l.at;
  counts : IsCounted l.room l.count (left_from l.bytes l.at l.number) (commands_of l.bytes);
}

abbrev pub decreases-loop-line : goal.decreases-loop-line
decreases-loop-line l = length l.bytes - l.at
