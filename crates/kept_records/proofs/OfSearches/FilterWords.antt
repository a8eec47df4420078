-- What the words of a block say of a filter.
use Rattle.std.proofs.Common.{◌≡◌, ◌∙◌, ℕ, ◌+◌, ◌-◌, ◌<◌, ◌≤◌, List, [], ◌∷◌, ◌++◌, length, map, take, drop, get_or, slice_get, slice_index, slice_range, Some, None, Bool, true, false, zero, suc, refl, sym, ap, subst, arith, length-drop}
use Rattle.std.specs.Prelude.{if◌then◌else◌}
use Rattle.std.proofs.lemmas.List.{take_more, map-append, get_or-drop}
use Rattle.block_codec.specs.declared.filter.StoredFilter.{StoredFilter}
use Rattle.block_codec.specs.Names.{action_in}
use Rattle.block_codec.specs.Reading.{filter_read}
use Rattle.block_codec.specs.OfReadings.Read.{is_filter, filter_in}
use Rattle.block_codec.proofs.OfReadings.Testing.{filter_has}
use Rattle.block_codec.proofs.Standing.{part_at, part_is}

-- the key of a block that agrees with another in each word
pub key_same : (words key : List ℕ) → length words ≡ 40 → length key ≡ 14 → ((k : ℕ) → k < 14 → get_or words (3 + k) 0 ≡ get_or key k 0) → slice_range words 3 17 ≡ key
key_same words key wide long each = part_is words key 3 17 (omega arith) (omega arith) (λ k low. each k (omega arith))

pub key_at : (words key : List ℕ) (k : ℕ) → slice_range words 3 17 ≡ key → k < 14 → get_or words (3 + k) 0 ≡ get_or key k 0
key_at words key k same low = sym (part_at words 3 17 k (omega arith)) ∙ ap (λ (ws : List ℕ). get_or ws k 0) same

-- one action more
pub actions_more : (words : List ℕ) (n : ℕ) → 17 + n < length words → map action_in (slice_range words 17 (17 + (n + 1))) ≡ map action_in (slice_range words 17 (17 + n)) ++ action_in (get_or words (17 + n) 0) ∷ []
actions_more words n low =
    let behind = drop 17 words in let long = length-drop 17 words in
    let one : 17 + (n + 1) - 17 ≡ n + 1 = omega arith in let other : 17 + n - 17 ≡ n = omega arith in
    ap (λ (k : ℕ). map action_in (take k behind)) one ∙ (ap (map action_in) (take_more behind n 0 (omega (arith, long, low)))
    ∙ (map-append action_in (take n behind) (get_or behind n 0 ∷ [])
    ∙ (ap (λ (k : ℕ). map action_in (take k behind) ++ action_in (get_or behind n 0) ∷ []) (sym other)
    ∙ ap (λ (w : ℕ). map action_in (slice_range words 17 (17 + n)) ++ action_in w ∷ []) (get_or-drop 17 words n 0))))

pub no_actions : (words : List ℕ) → map action_in (slice_range words 17 (17 + 0)) ≡ []
no_actions words = refl

-- the filter that the words of a block are those of
pub filter_is : (words : List ℕ) (f : StoredFilter) → filter_in words ≡ Some f → (f ≡ filter_read words) × (slice_index words 2 ≤ 16)
filter_is words f e = by (is_filter words) refl e
  where
    by : (t : Bool) → is_filter words ≡ t → (if t then Some (filter_read words) else None) ≡ Some f → (f ≡ filter_read words) × (slice_index words 2 ≤ 16)
    by true holds is = let same : filter_read words ≡ f = cc (is) in (sym same, (filter_has words holds).few)
    by false fails is = absurd (cc (is))

pub get_ahead : (xs : List StoredFilter) (n j : ℕ) (f : StoredFilter) → slice_get xs (n + j) ≡ Some f → slice_get (drop n xs) j ≡ Some f
get_ahead xs zero j f e = let none : 0 + j ≡ j = omega arith in subst (λ (z : ℕ). slice_get xs z ≡ Some f) none e
get_ahead [] (suc n) j f e = absurd (cc e)
get_ahead (x ∷ xs) (suc n) j f e = let next : suc n + j ≡ suc (n + j) = omega arith in get_ahead xs n j f (subst (λ (z : ℕ). slice_get (x ∷ xs) z ≡ Some f) next e)
