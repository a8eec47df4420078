use Rattle.std.proofs.Common.{ℕ, ◌<◌, get_or}
use Rattle.filter_index.proofs.Covering.{IsSameAt}
use Rattle.filter_index.proofs.sieve.agree.Given as goal

-- the words at the places so far are equal
abbrev pub invariant-loop-n : goal.invariant-loop-n
invariant-loop-n l = (j : ℕ) → j < l.n → IsSameAt l.frame l.mask l.key (get_or l.places j 0)
