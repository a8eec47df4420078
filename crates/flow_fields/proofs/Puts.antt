-- The values and the stray bits of a key after a value was put into a field, and of a key of zeros.
use Rattle.std.proofs.Common.{◌≡◌, ◌≢◌, ℕ, zero, suc, Bool, false, ◌+◌, ◌^◌, ◌<◌, ◌≤◌, ◌⊎◌, List, [], ◌∷◌, length, map, get_or, refl, arith, sym, ap, subst, inl, inr, ◌∙◌, slice_set}
use Rattle.std.specs.List.{list_any}
use Rattle.std.proofs.Math.ListN.{replicate}
use Rattle.std.proofs.Math.Nat.{zero-div, zero-mod}
use Rattle.std.proofs.lemmas.Bool.{cases_eq, cases_Bool, false≢true}
use Rattle.std.proofs.lemmas.Bool.Decides.{nat_tests}
use Rattle.std.proofs.lemmas.List.{get_or-set_same, get_or-set_other, get_or-map, same_lists, length-set, length-map}
use Rattle.std.proofs.lemmas.List.Recursion.{or_at}
use Rattle.flow_fields.specs.Table.{Field, fields, no_field, field_at, has_bit}
use Rattle.flow_fields.specs.Values.{with_bits, with_value, bits_of, value_in, values_of, zeros, IsTidy, SameStrays}
use Rattle.flow_fields.proofs.Bits.{put_same, put_other}
use Rattle.flow_fields.proofs.Places.{fields_count, apart}

value_same : (words : List ℕ) (i value : ℕ) → (field_at i).word < length words → value < 2 ^ (field_at i).width →
    value_in (field_at i) (with_value words i value) ≡ value
value_same words i value within fits =
    rw (get_or-set_same words (field_at i).word (with_bits (get_or words (field_at i).word 0) (field_at i).shift (field_at i).width value) 0 within)
    (put_same (get_or words (field_at i).word 0) (field_at i).shift (field_at i).width value fits)

-- other bits stay
bits_other : (words : List ℕ) (i value word at count : ℕ) → (field_at i).word < length words → value < 2 ^ (field_at i).width →
    (word ≡ (field_at i).word → (at + count ≤ (field_at i).shift) ⊎ ((field_at i).shift + (field_at i).width ≤ at)) →
    bits_of (get_or (with_value words i value) word 0) at count ≡ bits_of (get_or words word 0) at count
bits_other words i value word at count within fits apart_if =
    elim (cases_eq word (field_at i).word) [
      | inl same ↦
          let P : ℕ → Type 0 = λ w. bits_of (get_or (with_value words i value) w 0) at count ≡ bits_of (get_or words w 0) at count in
          subst P (sym same)
          (rw (get_or-set_same words (field_at i).word (with_bits (get_or words (field_at i).word 0) (field_at i).shift (field_at i).width value) 0 within)
          (put_other (get_or words (field_at i).word 0) (field_at i).shift (field_at i).width value at count fits (apart_if same)))
      | inr other ↦
          ap (λ n. bits_of n at count)
          (get_or-set_other words (field_at i).word word (with_bits (get_or words (field_at i).word 0) (field_at i).shift (field_at i).width value) 0 other)
    ]

value_other : (words : List ℕ) (i k value : ℕ) → i < 20 → k < 20 → k ≢ i → (field_at i).word < length words → value < 2 ^ (field_at i).width →
    value_in (field_at k) (with_value words i value) ≡ value_in (field_at k) words
value_other words i k value here there other within fits =
    bits_other words i value (field_at k).word (field_at k).shift (field_at k).width within fits (apart i k here there other)

pub value_at : (words : List ℕ) (k d : ℕ) → k < 20 → get_or (values_of words) k d ≡ value_in (field_at k) words
value_at words k d there =
    let within : k < length fields = rw fields_count there in get_or-map (λ (f : Field). value_in f words) fields k no_field d within

values_count : (words : List ℕ) → length (values_of words) ≡ 20
values_count words = length-map fields (λ (f : Field). value_in f words) ∙ fields_count

values_put_at : (words : List ℕ) (i value : ℕ) → i < 20 → (field_at i).word < length words → value < 2 ^ (field_at i).width →
    (k d : ℕ) → k < 20 →
    get_or (values_of (with_value words i value)) k d ≡ get_or (slice_set (values_of words) i value) k d
values_put_at words i value here within fits k d there =
    elim (cases_eq k i) [
      | inl same ↦
          let P : ℕ → Type 0 = λ k. get_or (values_of (with_value words i value)) k d ≡ get_or (slice_set (values_of words) i value) k d in
          let room : i < length (values_of words) = rw values_count here in
          subst P (sym same)
          (value_at (with_value words i value) i d here ∙ value_same words i value within fits
          ∙ sym (get_or-set_same (values_of words) i value d room))
      | inr other ↦
          value_at (with_value words i value) k d there ∙ value_other words i k value here there other within fits
          ∙ sym (value_at words k d there) ∙ sym (get_or-set_other (values_of words) i k value d other)
    ]

pub values_put : (words : List ℕ) (i value : ℕ) → i < 20 → (field_at i).word < length words → value < 2 ^ (field_at i).width →
    values_of (with_value words i value) ≡ slice_set (values_of words) i value
values_put words i value here within fits =
    same_lists _ _
    (values_count (with_value words i value) ∙ sym (values_count words) ∙ sym (length-set (values_of words) i value))
    (λ k d there. values_put_at words i value here within fits k d (rw values_count at there))

none_at : (p : Field → Bool) (fs : List Field) (i : ℕ) → i < length fs → list_any p fs ≡ false → p (get_or fs i no_field) ≡ false
none_at p fs i here none =
    elim (cases_Bool (p (get_or fs i no_field))) [
      | inl passes ↦ absurd (false≢true (sym none ∙ or_at (list_any p) p refl (λ _ _. refl) fs i no_field here passes))
      | inr fails ↦ fails
    ]

outside : (field : Field) (word bit : ℕ) → has_bit word bit field ≡ false → word ≡ field.word →
    (bit + 1 ≤ field.shift) ⊎ (field.shift + field.width ≤ bit)
outside field word bit test same = grind (arith, nat_tests)

pub strays_put : (words : List ℕ) (i value : ℕ) → i < 20 → (field_at i).word < length words → value < 2 ^ (field_at i).width →
    SameStrays words (with_value words i value)
strays_put words i value here within fits = λ word bit free.
    bits_other words i value word bit 1 within fits
    (outside (field_at i) word bit (none_at (has_bit word bit) fields i (rw fields_count here) free))

-- a key of zeros
pub zero_at : (n i : ℕ) → get_or {A = ℕ} (replicate n 0) i 0 ≡ 0
zero_at zero i = refl
zero_at (suc n) zero = refl
zero_at (suc n) (suc i) = zero_at n i

zero_value : (n : ℕ) (f : Field) → value_in f (replicate n 0) ≡ 0
zero_value n f = rw (zero_at n f.word, zero-div (2 ^ f.shift)) (zero-mod (2 ^ f.width))

zero_map : (n : ℕ) (fs : List Field) → map (λ (f : Field). value_in f (replicate n 0)) fs ≡ replicate (length fs) 0
zero_map n [] = refl
zero_map n (f ∷ fs) = rw (zero_value n f) (ap (λ (more : List ℕ). 0 ∷ more) (zero_map n fs))

pub zero_values : (n : ℕ) → values_of (replicate n 0) ≡ zeros
zero_values n = zero_map n fields ∙ ap (λ count. replicate count 0) fields_count

pub zero_tidy : (n : ℕ) → IsTidy (replicate n 0)
zero_tidy n = λ word bit free. rw (zero_at n word, zero-div (2 ^ bit)) (zero-mod 2)
