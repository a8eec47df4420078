use Rattle.std.proofs.Common.{◌≡◌, ◌≤◌, length}
use Rattle.flow_mask.specs.Masks.{each_and}
use Rattle.filter_index.specs.Chains.{last_of, is_digest}
use Rattle.filter_index.proofs.Seeking.{NoneFrom}
use Rattle.filter_index.proofs.filters.with_masked.Given as goal

-- no slot from this one on has the key
abbrev pub invariant-loop-at : goal.invariant-loop-at
invariant-loop-at l = record {
  own : l.at ≡ last_of (is_digest l.sought) l.chains.digests l.at;
  below : l.at ≤ length l.chains.digests;
  none : NoneFrom (each_and l.frame l.mask) l.slots l.at;
}

abbrev pub decreases-loop-at : goal.decreases-loop-at
decreases-loop-at l = l.at
