-- A mask and a key under it, and the places of the mask's words that aren't 0, this project's own.
use Rattle.std.specs.Prelude.{◌≡◌, ℕ, zero, suc, ◌<◌, ◌==◌, List, get_or, if◌then◌else◌}

-- the words of a mask and of a key
pub record MaskedWords : Type 0 where
  pub mask : List ℕ
  pub key : List ℕ

-- how many of the first words of a mask aren't 0
abbrev pub used_before : List ℕ → ℕ → ℕ
used_before mask zero = 0
used_before mask (suc k) = if get_or mask k 0 == 0 then used_before mask k else suc (used_before mask k)

-- the first `count` places are those of the words, among the first `n` of the mask, that aren't 0, in order
abbrev pub HasPlaces : List ℕ → ℕ → List ℕ → ℕ → Type 0
HasPlaces mask n places count = record {
  counted : count ≡ used_before mask n;
  below : (j : ℕ) → j < count → get_or places j 0 < n;
  listed : (k : ℕ) → k < n → (get_or mask k 0 ≡ 0 → ⊥) → (used_before mask k < count)
      × (get_or places (used_before mask k) 0 ≡ k);
}
