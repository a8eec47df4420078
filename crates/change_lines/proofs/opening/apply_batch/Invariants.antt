use Rattle.std.proofs.Common.{◌≡◌}
use Rattle.change_lines.proofs.BatchReach.{IsOpening}
use Rattle.change_lines.proofs.opening.apply_batch.Given as goal

abbrev pub invariant-loop-text : goal.invariant-loop-text
invariant-loop-text l = record {
  opening : IsOpening l.texts l.text-index l.replay l.stop.items;
  numbered : l.number ≡ l.text-index;
}
