use Rattle.std.proofs.Common.{◌≡◌}
use Rattle.batch_run.specs.Commands.{commands_in}
use Rattle.batch_run.proofs.CommandLines.{left_at}
use Rattle.batch_run.proofs.Limits.{HasRoom}
use Rattle.batch_run.proofs.limit.line_past_limit.Given as goal

abbrev pub invariant-loop-text : goal.invariant-loop-text
invariant-loop-text l = record {
  has : HasRoom l.room (left_at l.texts l.text-index) (commands_in l.texts);
  numbered : l.number ≡ l.text-index;
}
