use Rattle.std.proofs.Common.{drop, map}
use Rattle.filter_tables.specs.SeenMask.{plain_mask}
use Rattle.filter_lists.specs.OfRemoving.Leaving.{filters_in}
use Rattle.filter_lists.proofs.OfRemoving.Going.{IsGoing}
use Rattle.filter_lists.proofs.removing.doing.let_all_go.Given as goal

abbrev pub invariant-loop-mask : goal.invariant-loop-mask
invariant-loop-mask l = IsGoing (filters_in (map plain_mask l.masks)) (filters_in (map plain_mask (drop l.mask-index l.masks))) l.fn.kept l.kept
