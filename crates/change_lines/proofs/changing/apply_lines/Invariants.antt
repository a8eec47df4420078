use Rattle.std.proofs.Common.{◌≡◌}
use Rattle.batch_run.proofs.CommandLines.{left_at}
use Rattle.change_points.specs.Heads.{KnowsHeads}
use Rattle.change_lines.proofs.ChangeReach.{IsTold}
use Rattle.change_lines.proofs.changing.apply_lines.Given as goal

abbrev pub invariant-loop-text : goal.invariant-loop-text
invariant-loop-text l = record {
  told : IsTold l.fn.force l.texts (left_at l.texts l.text-index) l.initial.replay l.replay l.lines.items;
  numbered : l.number ≡ l.text-index;
  knows : KnowsHeads l.heads l.replay.journal.items;
  of : (l.heads.hook ≡ l.initial.heads.hook) × (l.heads.before ≡ l.initial.heads.before);
}
