use Rattle.std.proofs.Common.{◌≡◌, ℕ, ◌<◌, bit_and, get_or}
use Rattle.flow_mask.proofs.masked_key.match_at.Given as goal

-- the words at the places so far are equal
abbrev pub invariant-loop-n : goal.invariant-loop-n
invariant-loop-n l = (j : ℕ) → j < l.n →
    bit_and (get_or l.frame (get_or l.places j 0) 0) (get_or l.mask (get_or l.places j 0) 0) ≡ get_or l.key (get_or l.places j 0) 0
