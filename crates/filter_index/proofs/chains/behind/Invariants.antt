use Rattle.std.proofs.Common.{◌+◌, ◌<◌, length}
use Rattle.filter_index.proofs.Walking.{AtSlot}
use Rattle.filter_index.proofs.chains.behind.Given as goal

-- the slot is the chain's, and stands behind the one that is sought
abbrev pub invariant-loop-at : goal.invariant-loop-at
invariant-loop-at l = record {
  here : AtSlot (length l.heads) l.chain l.digests l.at;
  above : l.slot + 1 < l.at;
}

abbrev pub decreases-loop-at : goal.decreases-loop-at
decreases-loop-at l = l.at
