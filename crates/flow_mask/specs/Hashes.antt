-- The hash of a key's words, this project's own: a multiplication and a shift for each word, on numbers below
-- 2 ^ 64.
use Rattle.std.specs.Prelude.{ℕ, ◌*◌, ◌/◌, ◌%◌, ◌^◌, List, bit_xor}
use Rattle.std.specs.List.{fold}

-- a number, and its high half over its low one
abbrev pub folded : ℕ → ℕ
folded n = bit_xor n (n / 2 ^ 32)

-- one word more in a hash
abbrev pub mix : ℕ → ℕ → ℕ
mix hash word = folded (bit_xor hash word * 0xFF51AFD7ED558CCD % 2 ^ 64)

-- the words in order
abbrev pub hash_of : List ℕ → ℕ
hash_of words = fold mix 0x9E3779B97F4A7C15 words
