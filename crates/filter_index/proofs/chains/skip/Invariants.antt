use Rattle.std.proofs.Common.{◌≡◌, length}
use Rattle.filter_index.specs.Chains.{last_of, is_digest, chain_of}
use Rattle.filter_index.proofs.Walking.{AtSlot}
use Rattle.filter_index.proofs.chains.skip.Given as goal

-- the slot is the chain's, and the last of the digest is as it was
abbrev pub invariant-loop-at : goal.invariant-loop-at
invariant-loop-at l = record {
  here : AtSlot (length l.heads) (chain_of (length l.heads) l.digest) l.digests l.at;
  same : last_of (is_digest l.digest) l.digests l.at ≡ last_of (is_digest l.digest) l.digests l.from;
}

abbrev pub decreases-loop-at : goal.decreases-loop-at
decreases-loop-at l = l.at
