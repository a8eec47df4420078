use Rattle.filter_tables.specs.SeenMask.{plain_mask}
use Rattle.classify_walk.specs.Found.{is_mask}
use Rattle.classify_walk.proofs.Searching.{NoneBefore}
use Rattle.classify_walk.proofs.finding.mask_in.Given as goal

abbrev pub invariant-loop-list : goal.invariant-loop-list
invariant-loop-list l = NoneBefore (is_mask l.serial) plain_mask l.masks l.list-index
