use Rattle.std.proofs.Common.{◌≡◌}
use Rattle.batch_run.specs.Commands.{commands_in}
use Rattle.batch_trace.specs.Meeting.{entries_in, AreKept}
use Rattle.batch_trace.proofs.Reaching.{ReachedAt}
use Rattle.batch_trace.proofs.traced_batch.accepted_edits.Given as goal

abbrev pub invariant-loop-text : goal.invariant-loop-text
invariant-loop-text l = record {
  reached : ReachedAt (entries_in l.accepted) l.text-index l.texts (commands_in l.texts);
  kept : AreKept l.accepted;
  numbered : l.number ≡ l.text-index;
}
