-- Digests in slots, and the chains that lead to them (this project's own).
use Rattle.std.specs.Prelude.{◌≡◌, ℕ, zero, suc, ◌+◌, ◌<◌, ◌≤◌, ◌^◌, ◌/◌, ◌-◌, ◌==◌, Bool, true, false}
use Rattle.std.specs.Prelude.{List, length, get_or, Option, Some, None, bit_and, if◌then◌else◌}

-- the digest in each slot, if one is there; for how many slots more there is room, and for how many slots
-- there are chains
pub record ChainRoom : Type 0 where
  pub digests : List (Option ℕ)
  pub spare : ℕ
  pub slots : ℕ

-- the slot has a digest that passes
abbrev pub passes : (ℕ → Bool) → Option ℕ → Bool
passes test None = false
passes test (Some digest) = test digest

-- the last of the first `count` slots whose digest passes, counted from 1; 0 where none does
abbrev pub last_of : (ℕ → Bool) → List (Option ℕ) → ℕ → ℕ
last_of test digests zero = 0
last_of test digests (suc count) = if passes test (get_or digests count None) then suc count
    else last_of test digests count

abbrev pub is_digest : ℕ → ℕ → Bool
is_digest sought digest = digest == sought

-- which of so many chains a digest belongs to; they are a power of two
abbrev pub chain_of : ℕ → ℕ → ℕ
chain_of size digest = bit_and (digest / 2 ^ 32) (size - 1)

abbrev pub is_on : ℕ → ℕ → ℕ → Bool
is_on size chain digest = chain_of size digest == chain

-- each head names the last slot of its chain, and each slot with a digest the one before it on its chain
pub record AreLinked (size : ℕ) (heads : List ℕ) (digests : List (Option ℕ)) (nexts : List ℕ) : Type 0 where
  pub sized : length heads ≡ size
  pub even : length nexts ≡ length digests
  pub room : length digests ≤ size
  pub few : size < 2 ^ 32
  pub last : (chain : ℕ) → chain < size
      → get_or heads chain 0 ≡ last_of (is_on size chain) digests (length digests)
  pub before : (slot digest : ℕ) → slot < length digests → get_or digests slot None ≡ Some digest
      → get_or nexts slot 0 ≡ last_of (is_on size (chain_of size digest)) digests slot

-- that slot comes right behind the other on the chain
pub record IsBehind (test : ℕ → Bool) (digests : List (Option ℕ)) (slot behind : ℕ) : Type 0 where
  pub there : behind < length digests
  pub on : passes test (get_or digests behind None) ≡ true
  pub before : last_of test digests behind ≡ slot + 1
