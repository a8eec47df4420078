-- The fields' places: each within its word, no two in common.
use Rattle.std.proofs.Common.{◌≡◌, ◌≢◌, ℕ, Bool, true, false, ◌+◌, ◌<◌, ◌≤◌, ◌&&◌, ◌||◌, ◌==◌, not, nat_le, nat_lt, ◌⊎◌, List, [], ◌∷◌, length, get_or, Option, Some, None, IsTrue, refl, arith, suc, zero, sym, ap, ◌∙◌, inl, inr}
use Rattle.std.specs.List.{list_all}
use Rattle.std.proofs.lemmas.Bool.{cases_lt, cases_eq, false≢true}
use Rattle.std.proofs.lemmas.Bool.Decides.{nat_tests}
use Rattle.std.proofs.lemmas.List.Recursion.{and_at}
use Rattle.flow_fields.specs.Table.{Field, fields, no_field, field_at, field_named, has_bit, IsPlaced}

-- the facts on the table that are computed
abbrev is_placed : Field → Bool
is_placed field = nat_le 1 field.width && (nat_le (field.shift + field.width) 64 && nat_lt field.word 14)

abbrev are_apart : Field → Field → Bool
are_apart a b = not (a.word == b.word) || (nat_le (a.shift + a.width) b.shift || nat_le (b.shift + b.width) a.shift)

abbrev all_apart : List Field → Bool
all_apart [] = true
all_apart (a ∷ more) = list_all (are_apart a) more && all_apart more

fields_placed : list_all is_placed fields ≡ true
unfolding fields
fields_placed = refl

fields_apart : all_apart fields ≡ true
unfolding fields
fields_apart = refl

pub fields_count : length fields ≡ 20
unfolding fields
fields_count = refl

list_all_at : (p : Field → Bool) (fs : List Field) (i : ℕ) → i < length fs → list_all p fs ≡ true → p (get_or fs i no_field) ≡ true
list_all_at p fs i here all = and_at (list_all p) p refl (λ _ _. refl) fs i no_field here all

pub placed : (i : ℕ) → i < 20 → IsPlaced (field_at i)
placed i here =
    let test : is_placed (field_at i) ≡ true = list_all_at is_placed fields i (rw fields_count here) fields_placed in
    record { some = grind (arith, nat_tests); fits = grind (arith, nat_tests); word = grind (arith, nat_tests) }

apart_at : (fs : List Field) (i j : ℕ) → i < j → j < length fs → all_apart fs ≡ true →
    are_apart (get_or fs i no_field) (get_or fs j no_field) ≡ true
apart_at (f ∷ fs) zero (suc j) before within all = list_all_at (are_apart f) fs j (omega arith) (grind (arith, nat_tests))
apart_at (f ∷ fs) (suc i) (suc j) before within all = apart_at fs i j (omega arith) (omega arith) (grind (arith, nat_tests))
apart_at (f ∷ fs) i zero before within all = absurd (omega arith)
apart_at [] i j before within all = absurd (omega arith)

places : (a b : Field) → are_apart a b ≡ true → a.word ≡ b.word →
    (a.shift + a.width ≤ b.shift) ⊎ (b.shift + b.width ≤ a.shift)
places a b test same = grind (arith, nat_tests)

pub apart : (i k : ℕ) → i < 20 → k < 20 → k ≢ i → (field_at k).word ≡ (field_at i).word →
    ((field_at k).shift + (field_at k).width ≤ (field_at i).shift) ⊎ ((field_at i).shift + (field_at i).width ≤ (field_at k).shift)
apart i k here there other same =
    elim (cases_lt k i) [
      | inl before ↦ places (field_at k) (field_at i) (apart_at fields k i before (rw fields_count here) fields_apart) same
      | inr rest ↦
          elim (places (field_at i) (field_at k) (apart_at fields i k (omega arith) (rw fields_count there) fields_apart) (sym same)) [
            | inl a ↦ inr a
            | inr b ↦ inl b
          ]
    ]

-- two fields that have a bit in common, in one word and not apart
in_common : (a b : Field) (word bit : ℕ) → IsTrue (has_bit word bit a) → IsTrue (has_bit word bit b) →
    (b.word ≡ a.word → (b.shift + b.width ≤ a.shift) ⊎ (a.shift + a.width ≤ b.shift)) → ⊥
in_common a b word bit has_a has_b apart_if =
    let same : b.word ≡ a.word = grind (arith, nat_tests) in
    elim (apart_if same) [
      | inl below ↦ grind (arith, nat_tests)
      | inr above ↦ grind (arith, nat_tests)
    ]

pub one_field_a_bit : (i k word bit : ℕ) → i < 20 → k < 20 → IsTrue (has_bit word bit (field_at i)) → IsTrue (has_bit word bit (field_at k)) → i ≡ k
one_field_a_bit i k word bit here there has_i has_k =
    elim (cases_eq k i) [
      | inl same ↦ sym same
      | inr other ↦ absurd (in_common (field_at i) (field_at k) word bit has_i has_k (apart i k here there other))
    ]

abbrev is_number : Option ℕ → ℕ → Bool
is_number (Some found) number = found == number
is_number None number = false

-- the name of each of some fields finds the field's number, counted from a number on
abbrev are_found : List Field → ℕ → Bool
are_found [] number = true
are_found (f ∷ more) number = is_number (field_named f.name) number && are_found more (number + 1)

fields_found : are_found fields 0 ≡ true
unfolding fields
fields_found = refl

number_is : (found : Option ℕ) (number : ℕ) → is_number found number ≡ true → found ≡ Some number
number_is (Some found) number test = ap Some (let e : found ≡ number = grind (arith, nat_tests) in e)
number_is None number test = absurd (false≢true test)

true_first : (a b : Bool) → (a && b) ≡ true → a ≡ true
true_first true b both = refl
true_first false b both = absurd (false≢true both)

true_second : (a b : Bool) → (a && b) ≡ true → b ≡ true
true_second true b both = both
true_second false b both = absurd (false≢true both)

found_at : (fs : List Field) (number i : ℕ) → are_found fs number ≡ true → i < length fs → field_named (get_or fs i no_field).name ≡ Some (number + i)
found_at (f ∷ fs) number zero all here =
    let place : number ≡ number + 0 = omega arith in
    number_is (field_named f.name) number (true_first (is_number (field_named f.name) number) (are_found fs (number + 1)) all) ∙ ap Some place
found_at (f ∷ fs) number (suc i) all here =
    let place : number + 1 + i ≡ number + suc i = omega arith in
    found_at fs (number + 1) i (true_second (is_number (field_named f.name) number) (are_found fs (number + 1)) all) (omega arith) ∙ ap Some place
found_at [] number i all here = absurd (omega arith)

pub named : (i : ℕ) → i < 20 → field_named (field_at i).name ≡ Some i
named i here =
    let place : 0 + i ≡ i = omega arith in
    found_at fields 0 i fields_found (rw fields_count here) ∙ ap Some place
