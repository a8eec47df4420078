use Rattle.std.proofs.Common.{◌≡◌}
use Rattle.batch_run.specs.Commands.{commands_in}
use Rattle.batch_run.proofs.LentLines.{ReachedAt}
use Rattle.batch_run.proofs.run.run_batch.Given as goal

abbrev pub invariant-loop-text : goal.invariant-loop-text
invariant-loop-text l = record {
  reached : ReachedAt l.lists (record { accepted = l.accepted; made = l.made.items }) l.text-index l.texts (commands_in l.texts);
  numbered : l.number ≡ l.text-index;
}
