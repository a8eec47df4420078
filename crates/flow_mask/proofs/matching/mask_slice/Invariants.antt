use Rattle.std.proofs.Common.{◌≡◌, ℕ, ◌<◌, ◌≤◌, bit_and}
use Rattle.std.specs.Prelude.{slice_index}
use Rattle.flow_mask.proofs.matching.mask_slice.Given as goal

-- the words so far are under the mask, and the others are as they were
abbrev pub invariant-loop-i : goal.invariant-loop-i
invariant-loop-i l = record {
  done : (k : ℕ) → k < l.i → slice_index l.words k ≡ bit_and (slice_index l.initial.words k) (slice_index l.mask k);
  left : (k : ℕ) → l.i ≤ k → slice_index l.words k ≡ slice_index l.initial.words k;
}
