use Rattle.std.proofs.Common.{◌≡◌, ℕ, ◌<◌, ◌≤◌, get_or}
use Rattle.flow_mask.specs.Places.{used_before}
use Rattle.filter_index.proofs.sieve.is_within.Given as goal

-- the key is 0 so far where the mask is
abbrev pub invariant-loop-k : goal.invariant-loop-k
invariant-loop-k l = record {
  used : l.used ≡ used_before l.mask l.k;
  few : l.used ≤ l.k;
  within : (j : ℕ) → j < l.k → get_or l.mask j 0 ≡ 0 → get_or l.key j 0 ≡ 0;
}
