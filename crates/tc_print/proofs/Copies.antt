-- The values of one key are put into an empty one, field by field.
use Rattle.std.proofs.Common.{◌≡◌, ◌≢◌, ◌∙◌, ℕ, suc, ◌+◌, ◌/◌, ◌^◌, ◌<◌, ◌≤◌, List, length, get_or, refl, sym, ap, subst, inl, inr, arith}
use Rattle.std.proofs.Math.Nat.{mod-lt}
use Rattle.std.proofs.lemmas.Bool.{cases_eq}
use Rattle.std.proofs.lemmas.Nat.{pow_pos}
use Rattle.std.proofs.lemmas.List.{get_or-set_same, get_or-set_other, length-set, length-map, same_lists}
use Rattle.flow_fields.specs.Table.{Field, fields, field_at}
use Rattle.flow_fields.specs.Values.{value_in, with_value, values_of, IsTidy}
use Rattle.flow_fields.proofs.Places.{fields_count, placed}
use Rattle.flow_fields.proofs.Puts.{value_at, values_put, strays_put, zero_at, zero_values, zero_tidy}
use Rattle.flow_fields.proofs.Words.{words_from_values}
use Rattle.tc_batch.specs.Fields.{no_words}
use Rattle.tc_print.specs.FieldWords.{value_by_number}

-- a key that has the values of another in the fields below a number, and 0 in the others
pub record IsCopied (from : List ℕ) (number : ℕ) (to : List ℕ) : Type 0 where
  pub count : length to ≡ 14
  pub tidy : IsTidy to
  pub below : (field : ℕ) → field < number → field < 20 → value_by_number to field ≡ value_by_number from field
  pub above : (field : ℕ) → number ≤ field → field < 20 → value_by_number to field ≡ 0

-- a value has no more bits than its field
pub fits : (words : List ℕ) (field : ℕ) → value_by_number words field < 2 ^ (field_at field).width
fits words field = mod-lt (get_or words (field_at field).word 0 / 2 ^ (field_at field).shift) (pow_pos (field_at field).width)

-- nothing is copied yet
zero_value : (field : ℕ) → field < 20 → value_by_number no_words field ≡ 0
zero_value field here =
    sym (value_at no_words field 0 here) ∙ ap (λ (vs : List ℕ). get_or vs field 0) (zero_values 14) ∙ zero_at 20 field

pub copied_none : (from : List ℕ) → IsCopied from 0 no_words
copied_none from = record {
  count = refl;
  tidy = zero_tidy 14;
  below = λ field before here. absurd (omega arith);
  above = λ field after here. zero_value field here;
}

-- a value that is put
put_same : (words : List ℕ) (i value : ℕ) → length words ≡ 14 → i < 20 → value < 2 ^ (field_at i).width → value_by_number (with_value words i value) i ≡ value
put_same words i value count here small =
    let place = placed i here in let word : (field_at i).word < length words = let w = place.word in omega (arith, w) in
    let room : i < length (values_of words) = rw (length-map fields (λ (f : Field). value_in f words)) (rw fields_count here) in
    sym (value_at (with_value words i value) i 0 here) ∙ ap (λ (vs : List ℕ). get_or vs i 0) (values_put words i value here word small)
    ∙ get_or-set_same (values_of words) i value 0 room

put_other : (words : List ℕ) (i k value : ℕ) → length words ≡ 14 → i < 20 → k < 20 → k ≢ i → value < 2 ^ (field_at i).width
    → value_by_number (with_value words i value) k ≡ value_by_number words k
put_other words i k value count here there other small =
    let place = placed i here in let word : (field_at i).word < length words = let w = place.word in omega (arith, w) in
    sym (value_at (with_value words i value) k 0 there) ∙ ap (λ (vs : List ℕ). get_or vs k 0) (values_put words i value here word small)
    ∙ get_or-set_other (values_of words) i k value 0 other ∙ value_at words k 0 there

put_tidy : (words : List ℕ) (i value : ℕ) → length words ≡ 14 → i < 20 → value < 2 ^ (field_at i).width → IsTidy words → IsTidy (with_value words i value)
put_tidy words i value count here small tidy = λ word bit free.
    let place = placed i here in let within : (field_at i).word < length words = let w = place.word in omega (arith, w) in
    strays_put words i value here within small word bit free ∙ tidy word bit free

pub copied_next : (from : List ℕ) (i : ℕ) (to : List ℕ) → i < 20 → IsCopied from i to → IsCopied from (suc i) (with_value to i (value_by_number from i))
copied_next from i to here copied =
    let value : ℕ = value_by_number from i in
    let small : value < 2 ^ (field_at i).width = fits from i in
    record {
      count = length-set to (field_at i).word _ ∙ copied.count;
      tidy = put_tidy to i value copied.count here small copied.tidy;
      below = λ field before there. elim (cases_eq field i) [
        | inl same ↦ subst (λ k. value_by_number (with_value to i value) k ≡ value_by_number from k) (sym same) (put_same to i value copied.count here small)
        | inr other ↦ put_other to i field value copied.count here there other small ∙ copied.below field (omega arith) there
      ];
      above = λ field after there. put_other to i field value copied.count here there (λ same. omega arith) small ∙ copied.above field (omega arith) there;
    }

-- two values that are put one after the other
pub copied_two : (from : List ℕ) (i : ℕ) (to : List ℕ) → i < 19 → IsCopied from i to
    → IsCopied from (suc (i + 1)) (with_value (with_value to i (value_by_number from i)) (i + 1) (value_by_number from (i + 1)))
copied_two from i to here copied =
    let one : List ℕ = with_value to i (value_by_number from i) in
    let next : suc i ≡ i + 1 = omega arith in
    subst (λ j. IsCopied from (suc j) (with_value one j (value_by_number from j))) next
    (copied_next from (suc i) one (omega arith) (copied_next from i to (omega arith) copied))

-- a value of 0 is there already
pub copied_zero : (from : List ℕ) (i : ℕ) (to : List ℕ) → i < 20 → value_by_number from i ≡ 0 → IsCopied from i to → IsCopied from (suc i) to
copied_zero from i to here none copied = record {
  count = copied.count;
  tidy = copied.tidy;
  below = λ field before there. elim (cases_eq field i) [
    | inl same ↦ subst (λ k. value_by_number to k ≡ value_by_number from k) (sym same) (copied.above i (omega arith) here ∙ sym none)
    | inr other ↦ copied.below field (omega arith) there
  ];
  above = λ field after there. copied.above field (omega arith) there;
}

values_same : (from to : List ℕ) → IsCopied from 20 to → values_of to ≡ values_of from
values_same from to copied =
    same_lists (values_of to) (values_of from)
    (length-map fields (λ (f : Field). value_in f to) ∙ sym (length-map fields (λ (f : Field). value_in f from)))
    (λ k d there.
    let here : k < 20 = rw (sym fields_count) (rw (sym (length-map fields (λ (f : Field). value_in f to))) there) in
    value_at to k d here ∙ copied.below k here here ∙ sym (value_at from k d here))

-- all is copied
pub copied_all : (from to : List ℕ) → length from ≡ 14 → IsTidy from → IsCopied from 20 to → to ≡ from
copied_all from to count tidy copied = words_from_values to from (copied.count ∙ sym count) copied.tidy tidy (values_same from to copied)
