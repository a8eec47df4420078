-- The digest of a key's words (this project's own).
use Rattle.std.specs.Prelude.{ℕ, zero, suc, ◌+◌, ◌*◌, ◌%◌, ◌^◌, List, length, get_or}
use Rattle.filter_index.specs.declared.digests.TheConstants.{FACTORS}

-- the first `count` words, each times the factor of its place, added up
abbrev pub weighed : List ℕ → ℕ → ℕ
weighed words zero = 0
weighed words (suc k) = weighed words k + get_or words k 0 * get_or FACTORS k 0

-- the sum over all words, below 2 ^ 64
abbrev pub digest_of : List ℕ → ℕ
digest_of words = weighed words (length words) % 2 ^ 64
