use Rattle.std.proofs.Common.{◌≡◌, map, take, vec_capacity}
use Rattle.filter_index.specs.Listed.{those_there}
use Rattle.shared_hook.specs.OfDeskEdits.OfMoves.Tells.{stored_at}
use Rattle.shared_hook.proofs.desk_edits.moves.telling.tell_all.Given as goal

abbrev pub invariant-loop-slot : goal.invariant-loop-slot
invariant-loop-slot l = record {
  told : l.into.items ≡ map (stored_at l.places) (those_there (take l.slot-index l.slots));
  capacity : vec_capacity l.into ≡ vec_capacity l.fn.into;
}
