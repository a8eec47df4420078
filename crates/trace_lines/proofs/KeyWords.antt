-- Keys that are made field by field.
use Rattle.std.proofs.Common.{◌≡◌, ◌∙◌, ℕ, zero, suc, ◌+◌, ◌^◌, ◌<◌, List, [], length, get_or, drop, map, refl, sym, ap, subst, inl, inr, arith, slice_set}
use Rattle.std.specs.List.{range_with_len}
use Rattle.std.proofs.lemmas.Bool.{cases_eq}
use Rattle.std.proofs.lemmas.List.{length-map, length-set, get_or-set_same, get_or-set_other, at_drop_all, at_drop_more}
use Rattle.std.proofs.lemmas.List.FromFn.{fill_by_all}
use Rattle.flow_fields.specs.Table.{Field, fields, field_at}
use Rattle.flow_fields.specs.Values.{value_in, with_value, values_of, zeros, IsTidy}
use Rattle.flow_fields.proofs.Places.{fields_count, placed}
use Rattle.flow_fields.proofs.Puts.{value_at, values_put, strays_put, zero_tidy}
use Rattle.flow_fields.proofs.Words.{words_from_values}
use Rattle.tc_print.proofs.Copies.{fits}
use Rattle.trace_lines.specs.Fields.{no_words, set_from, words_with}

pub word_below : (field : ℕ) → field < 20 → (field_at field).word < 14
word_below field here = let place = placed field here in place.word

pub values_count : (words : List ℕ) → length (values_of words) ≡ 20
values_count words = length-map fields (λ (f : Field). value_in f words) ∙ fields_count

-- a key of fourteen words and no stray bits that has these values in the fields below a number
pub record IsFilled (value : ℕ → ℕ) (number : ℕ) (to : List ℕ) : Type 0 where
  pub count : length to ≡ 14
  pub tidy : IsTidy to
  pub below : (field : ℕ) → field < number → field < 20 → get_or (values_of to) field 0 ≡ value field

pub filled_none : (value : ℕ → ℕ) (to : List ℕ) → length to ≡ 14 → IsTidy to → IsFilled value 0 to
filled_none value to count tidy = record {
  count = count;
  tidy = tidy;
  below = λ field before here. absurd (omega arith);
}

pub filled_next : (value : ℕ → ℕ) (i v : ℕ) (to next : List ℕ) → i < 20 → length next ≡ 14 → (IsTidy to → IsTidy next)
    → values_of next ≡ slice_set (values_of to) i v → v ≡ value i → IsFilled value i to → IsFilled value (i + 1) next
filled_next value i v to next here count tidy put is filled =
    let room : i < length (values_of to) = rw (values_count to) here in
    record {
      count = count;
      tidy = tidy filled.tidy;
      below = λ field before there. ap (λ (vs : List ℕ). get_or vs field 0) put ∙ elim (cases_eq field i) [
        | inl same ↦ subst (λ k. get_or (slice_set (values_of to) i v) k 0 ≡ value k) (sym same)
            (get_or-set_same (values_of to) i v 0 room ∙ is)
        | inr other ↦ get_or-set_other (values_of to) i field v 0 other ∙ filled.below field (omega arith) there
      ];
    }

-- all fields are filled
pub filled_values : (value : ℕ → ℕ) (to : List ℕ) → IsFilled value 20 to → values_of to ≡ map value (range_with_len 0 20)
filled_values value to filled =
    fill_by_all value (values_of to) 20 0 (values_count to) (λ k here. filled.below k here here)

-- by the values of a key
pub filled_from_values : (from to : List ℕ) → IsFilled (λ k. get_or (values_of from) k 0) 20 to → values_of to ≡ values_of from
filled_from_values from to filled = filled_values (λ k. get_or (values_of from) k 0) to filled
    ∙ sym (fill_by_all (λ k. get_or (values_of from) k 0) (values_of from) 20 0 (values_count from) (λ k here. refl))

-- ---- the words with the values of a key
value_fits : (from : List ℕ) (i : ℕ) → i < 20 → get_or (values_of from) i 0 < 2 ^ (field_at i).width
value_fits from i here = subst (λ v. v < 2 ^ (field_at i).width) (sym (value_at from i 0 here)) (fits from i)

put_filled : (from to : List ℕ) (i : ℕ) → i < 20 → IsFilled (λ k. get_or (values_of from) k 0) i to
    → IsFilled (λ k. get_or (values_of from) k 0) (i + 1) (with_value to i (get_or (values_of from) i 0))
put_filled from to i here filled =
    let v : ℕ = get_or (values_of from) i 0 in
    let place = word_below i here in
    let within : (field_at i).word < length to = rw filled.count place in
    let small : v < 2 ^ (field_at i).width = value_fits from i here in
    filled_next (λ k. get_or (values_of from) k 0) i v to (with_value to i v) here
    (length-set to (field_at i).word _ ∙ filled.count)
    (λ tidy word bit free. strays_put to i v here within small word bit free ∙ tidy word bit free)
    (values_put to i v here within small) refl filled

filled_from : (n i : ℕ) (from to : List ℕ) → n + i ≡ 20 → IsFilled (λ k. get_or (values_of from) k 0) i to
    → IsFilled (λ k. get_or (values_of from) k 0) 20 (set_from i (drop i (values_of from)) to)
filled_from zero i from to whole filled =
    let last : i ≡ 20 = omega arith in
    let none : set_from i (drop i (values_of from)) to ≡ to =
    at_drop_all (λ (rest : List ℕ). set_from i rest to) (values_of from) i (rw (values_count from) (omega arith)) in
    subst (λ (t : List ℕ). IsFilled (λ k. get_or (values_of from) k 0) 20 t) (sym none)
    (subst (λ n. IsFilled (λ k. get_or (values_of from) k 0) n to) last filled)
filled_from (suc n) i from to whole filled =
    let here : i < 20 = omega arith in
    let one : set_from i (drop i (values_of from)) to
    ≡ set_from (i + 1) (drop (i + 1) (values_of from)) (with_value to i (get_or (values_of from) i 0)) =
    at_drop_more (λ (rest : List ℕ). set_from i rest to) (values_of from) i 0 (rw (values_count from) here) in
    subst (λ (t : List ℕ). IsFilled (λ k. get_or (values_of from) k 0) 20 t) (sym one)
    (filled_from n (i + 1) from (with_value to i (get_or (values_of from) i 0)) (omega arith) (put_filled from to i here filled))

with_filled : (from : List ℕ) → IsFilled (λ k. get_or (values_of from) k 0) 20 (words_with (values_of from))
with_filled from = filled_from 20 0 from no_words refl (filled_none _ no_words refl (zero_tidy 14))

pub values_with : (from : List ℕ) → values_of (words_with (values_of from)) ≡ values_of from
values_with from = filled_from_values from (words_with (values_of from)) (with_filled from)

-- A KEY WITHOUT STRAY BITS is made by its values
pub own_words : (key : List ℕ) → length key ≡ 14 → IsTidy key → key ≡ words_with (values_of key)
own_words key count tidy =
    let filled = with_filled key in
    words_from_values key (words_with (values_of key)) (count ∙ sym filled.count) tidy filled.tidy (sym (values_with key))

-- of no words each field is 0
pub no_values : values_of [] ≡ zeros
unfolding fields
no_values = refl
