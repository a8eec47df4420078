-- A sieve: which keys may be among some, as far as 64 marks tell it (this project's own).
use Rattle.std.specs.Prelude.{◌≡◌, ℕ, zero, suc, ◌+◌, ◌*◌, ◌/◌, ◌%◌, ◌^◌, ◌<◌, ◌≤◌, ◌==◌, Bool, true, List}
use Rattle.std.specs.Prelude.{length, get_or, min, bit_and}
use Rattle.std.specs.Int.{bit_at}
use Rattle.std.specs.List.{All}
use Rattle.flow_mask.specs.Places.{used_before, HasPlaces}
use Rattle.filter_index.specs.declared.filter.Filter.{Filter}
use Rattle.filter_index.specs.declared.digests.TheConstants.{FACTORS, SIEVE_WORDS}

-- the first `count` places are those of the words that are looked at, each under the word of a mask; and the
-- marks that are set, as the bits of a number
pub record MarkedPlaces : Type 0 where
  pub places : List ℕ
  pub words : List ℕ
  pub count : ℕ
  pub marks : ℕ

-- the words at the first `count` places, each under its word and times the factor of its place, added up
abbrev pub weighed_at : List ℕ → List ℕ → List ℕ → ℕ → ℕ
weighed_at places words key zero = 0
weighed_at places words key (suc n) = weighed_at places words key n
    + bit_and (get_or key (get_or places n 0) 0) (get_or words n 0) * get_or FACTORS (get_or places n 0) 0

-- that sum over the words that a sieve looks at, below 2 ^ 64
abbrev pub sum_of : MarkedPlaces → List ℕ → ℕ
sum_of s key = weighed_at s.places s.words key s.count % 2 ^ 64

-- the mark of a key, one of 64: the top six bits of that sum
abbrev pub mark_of : MarkedPlaces → List ℕ → ℕ
mark_of s key = sum_of s key / 2 ^ 58

-- the mark of the key is set
abbrev pub lets_through : MarkedPlaces → List ℕ → Bool
lets_through s key = bit_at s.marks (mark_of s key) == 1

-- each of the first `count` words is the mask's at its place
abbrev pub AreChosen : List ℕ → List ℕ → List ℕ → ℕ → Type 0
AreChosen mask places words count = (j : ℕ) → j < count
    → (get_or places j 0 < 14) × (get_or words j 0 ≡ get_or mask (get_or places j 0) 0)

-- a sieve has places for all words of the mask that aren't 0
abbrev pub FitsSieve : List ℕ → Type 0
FitsSieve mask = used_before mask (length mask) ≤ SIEVE_WORDS

-- the sieve looks at words of the mask, as many as aren't 0, but no more than it has places for; at all of
-- them, where it has places for all
pub record LooksAt (mask : List ℕ) (s : MarkedPlaces) : Type 0 where
  pub count : s.count ≡ min SIEVE_WORDS (used_before mask (length mask))
  pub chosen : AreChosen mask s.places s.words s.count
  pub listed : FitsSieve mask → HasPlaces mask (length mask) s.places s.count

-- the key is 0 in each word in which the mask is 0
abbrev pub IsWithin : List ℕ → List ℕ → Type 0
IsWithin mask key = (k : ℕ) → get_or mask k 0 ≡ 0 → get_or key k 0 ≡ 0

-- what a sieve looks at is all that tells the filters of its mask apart
pub record AreCovered (mask : List ℕ) (filters : List Filter) : Type 0 where
  pub fits : FitsSieve mask
  pub within : All (λ f. IsWithin mask f.key.words) filters

-- the sieve lets the key of each filter through
abbrev pub LetsAll : MarkedPlaces → List Filter → Type 0
LetsAll s filters = All (λ f. lets_through s f.key.words ≡ true) filters
