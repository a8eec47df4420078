use Rattle.std.proofs.Common.{◌≡◌, ℕ, ◌<◌, bit_and}
use Rattle.std.specs.Prelude.{slice_index}
use Rattle.flow_mask.proofs.matching.slices_match.Given as goal

-- the words so far are equal
abbrev pub invariant-loop-i : goal.invariant-loop-i
invariant-loop-i l = (k : ℕ) → k < l.i → bit_and (slice_index l.frame k) (slice_index l.mask k) ≡ slice_index l.key k
