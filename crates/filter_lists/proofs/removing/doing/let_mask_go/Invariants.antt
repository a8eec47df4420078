use Rattle.std.proofs.Common.{drop}
use Rattle.filter_index.specs.Listed.{those_there}
use Rattle.filter_lists.proofs.OfRemoving.Going.{IsGoing}
use Rattle.filter_lists.proofs.removing.doing.let_mask_go.Given as goal

abbrev pub invariant-loop-slot : goal.invariant-loop-slot
invariant-loop-slot l = IsGoing (those_there l.slots) (those_there (drop l.slot-index l.slots)) l.fn.kept l.kept
