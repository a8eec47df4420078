-- Words are made by the values of their fields and their stray bits.
use Rattle.std.proofs.Common.{◌≡◌, ℕ, suc, true, ◌+◌, ◌-◌, ◌/◌, ◌%◌, ◌^◌, ◌<◌, ◌≤◌, List, [], ◌∷◌, length, get_or, refl, sym, ap, ap₂, ◌∙◌, subst, inl, inr, arith}
use Rattle.std.specs.Int.{bit_at}
use Rattle.std.proofs.lemmas.Nat.{field_of, shr-shr}
use Rattle.std.proofs.lemmas.Nat.Bits.{same_from_bits}
use Rattle.std.proofs.lemmas.Bool.{cases_Bool}
use Rattle.std.proofs.lemmas.Bool.Decides.{nat_tests}
use Rattle.std.proofs.lemmas.List.{get_or_default}
use Rattle.std.proofs.lemmas.List.Folds.{Any-from_list_any}
use Rattle.std.proofs.Math.Pow.{mod-mod-pow}
use Rattle.flow_fields.specs.Table.{Field, fields, no_field, field_at, has_bit}
use Rattle.flow_fields.specs.Values.{bits_of, values_of, value_in, in_field, IsTidy}
use Rattle.flow_fields.proofs.Places.{fields_count}
use Rattle.flow_fields.proofs.Puts.{value_at}

-- a bit of a field
bit_of_field : (n s w j : ℕ) → s ≤ j → j < s + w → bit_at (bits_of n s w) (j - s) ≡ bit_at n j
bit_of_field n s w j low high =
    let d : ℕ = j - s in
    let whole : w ≡ w - d + d = omega arith in
    let rest : w - d ≡ w - d - 1 + 1 = omega arith in
    let place : s + d ≡ j = omega arith in
    let P : ℕ → Type 0 = λ u. n / 2 ^ s % 2 ^ u / 2 ^ d % 2 ≡ n / 2 ^ j % 2 in
    let Q : ℕ → Type 0 = λ u. n / 2 ^ s / 2 ^ d % 2 ^ u % 2 ≡ n / 2 ^ s / 2 ^ d % 2 in
    subst P (sym whole)
    (ap (λ x. x % 2) (field_of (n / 2 ^ s) (w - d) d)
    ∙ subst Q (sym rest) (mod-mod-pow (n / 2 ^ s / 2 ^ d) (w - d - 1) 1)
    ∙ ap (λ x. x % 2) (shr-shr n s d)
    ∙ ap (λ t. n / 2 ^ t % 2) place)

-- a bit that a field has
bit_from_value : (xs ys : List ℕ) (f : Field) (word j : ℕ) → value_in f xs ≡ value_in f ys → has_bit word j f ≡ true →
    bit_at (get_or xs word 0) j ≡ bit_at (get_or ys word 0) j
bit_from_value xs ys f word j values test =
    let same : f.word ≡ word = grind (arith, nat_tests) in
    let low : f.shift ≤ j = grind (arith, nat_tests) in
    let high : j < f.shift + f.width = grind (arith, nat_tests) in
    let P : ℕ → Type 0 = λ w. bit_at (get_or xs w 0) j ≡ bit_at (get_or ys w 0) j in
    subst P same
    (sym (bit_of_field (get_or xs f.word 0) f.shift f.width j low high)
    ∙ ap (λ n. bit_at n (j - f.shift)) values
    ∙ bit_of_field (get_or ys f.word 0) f.shift f.width j low high)

same_value : (xs ys : List ℕ) → values_of xs ≡ values_of ys → (i : ℕ) → i < 20 → value_in (field_at i) xs ≡ value_in (field_at i) ys
same_value xs ys values i here = sym (value_at xs i 0 here) ∙ ap (λ (vs : List ℕ). get_or vs i 0) values ∙ value_at ys i 0 here

bits_from_values : (xs ys : List ℕ) → IsTidy xs → IsTidy ys → values_of xs ≡ values_of ys → (word j : ℕ) →
    bit_at (get_or xs word 0) j ≡ bit_at (get_or ys word 0) j
bits_from_values xs ys tidy_xs tidy_ys values word j =
    elim (cases_Bool (in_field word j)) [
      | inl some ↦
          let (i, f, here, at, test) = Any-from_list_any (has_bit word j) fields some in
          let same : field_at i ≡ f = get_or_default fields i no_field f here ∙ at in
          let P : Field → Type 0 = λ f. has_bit word j f ≡ true in
          bit_from_value xs ys (field_at i) word j (same_value xs ys values i (rw fields_count at here)) (subst P (sym same) test)
      | inr none ↦ tidy_xs word j none ∙ sym (tidy_ys word j none)
    ]

same_words : (xs ys : List ℕ) → length xs ≡ length ys → ((k : ℕ) → get_or xs k 0 ≡ get_or ys k 0) → xs ≡ ys
same_words [] [] lengths same = refl
same_words [] (y ∷ ys) lengths same = absurd (omega arith)
same_words (x ∷ xs) [] lengths same = absurd (omega arith)
same_words (x ∷ xs) (y ∷ ys) lengths same = ap₂ ◌∷◌ (same 0) (same_words xs ys (omega arith) (λ k. same (suc k)))

pub words_from_values : (xs ys : List ℕ) → length xs ≡ length ys → IsTidy xs → IsTidy ys → values_of xs ≡ values_of ys → xs ≡ ys
words_from_values xs ys lengths tidy_xs tidy_ys values =
    same_words xs ys lengths (λ word. same_from_bits _ _ (λ j. bits_from_values xs ys tidy_xs tidy_ys values word j))
