-- The printed IPv6 addresses are read back, and with them all fields.
use Rattle.std.proofs.Common.{◌≡◌, ◌≢◌, ◌∙◌, ℕ, suc, ◌+◌, ◌*◌, ◌/◌, ◌%◌, ◌^◌, ◌<◌, ◌≤◌, ◌⊎◌, Bool, true, false, List, [], ◌∷◌, ◌++◌, length, get_or, bit_and, lit<, Some, refl, sym, ap, ap₂, subst, inl, inr, arith}
use Rattle.std.specs.Prelude.{◌&&◌, ◌==◌, if◌then◌else◌}
use Rattle.std.specs.Option.{option_map}
use Rattle.std.proofs.lemmas.Bool.Decides.{nat_tests}
use Rattle.std.proofs.lemmas.List.{get_or-set_other}
use Rattle.std.proofs.lemmas.Nat.{and_shr, and_mod}
use Rattle.flow_fields.specs.Values.{values_of}
use Rattle.flow_fields.proofs.Puts.{value_at}
use Rattle.tc_words.specs.Ipv6Addresses.{ipv6_of, ipv6_mask}
use Rattle.line_texts.specs.Texts.{ipv6_text, ipv6_length_of}
use Rattle.line_texts.proofs.Ipv6Texts.{ipv6-read}
use Rattle.line_texts.proofs.Lengths.{length-of_ipv6}
use Rattle.filter_state.specs.Fields.{IsPrefix, joined, AreFields, AreKeys}
use Rattle.tc_batch.specs.declared.field_name.FieldName.{FieldName}
use Rattle.tc_batch.specs.declared.field_name.FieldName.TheVariants as names
use Rattle.tc_batch.specs.declared.fields.Fields.{Fields}
use Rattle.tc_batch.specs.declared.draft.Head.{Head}
use Rattle.tc_batch.specs.FieldNames.{field_name, field_number}
use Rattle.tc_batch.specs.Fields.{no_fields, named, has_header, has_colon, with_field_value, with_one, with_prefix, with_ipv6, with_field, field_setting, head_refuses, head_takes}
use Rattle.tc_batch.specs.Grammar.{Pairs}
use Rattle.tc_print.specs.FieldWords.{name_text, value_by_number, prefix_words, all_names, named_words, prefixes_words, fields_words}
use Rattle.tc_print.proofs.Pairs.{pairs_end, pair_is, joined_is}
use Rattle.tc_print.proofs.Copies.{copied_two, copied_all}
use Rattle.tc_print.proofs.ReadsValues.{half_fits, under_mask, ipv6_has_colon}
use Rattle.tc_print.proofs.ReadsFields.{IsReadTo, read_none, below_sixteen, skipped, may_stand, name_is, head_with, fields_are}

-- two halves under the halves of a mask
joined_and : (high low mask_high mask_low : ℕ) → low < 2 ^ 64 → mask_low < 2 ^ 64 → bit_and high mask_high ≡ high → bit_and low mask_low ≡ low
    → bit_and (high * 2 ^ 64 + low) (mask_high * 2 ^ 64 + mask_low) ≡ high * 2 ^ 64 + low
joined_and high low mask_high mask_low small mask_small under_high under_low =
    let value : ℕ = high * 2 ^ 64 + low in
    let mask : ℕ = mask_high * 2 ^ 64 + mask_low in
    let value_above : value / 2 ^ 64 ≡ high = omega arith in
    let value_below : value % 2 ^ 64 ≡ low = omega arith in
    let mask_above : mask / 2 ^ 64 ≡ mask_high = omega arith in
    let mask_below : mask % 2 ^ 64 ≡ mask_low = omega arith in
    let above : bit_and value mask / 2 ^ 64 ≡ high = and_shr value mask 64 ∙ ap₂ bit_and value_above mask_above ∙ under_high in
    let below : bit_and value mask % 2 ^ 64 ≡ low = and_mod value mask 64 ∙ ap₂ bit_and value_below mask_below ∙ under_low in
    omega (arith, above, below)

-- an address is read back as its halves
address_read : (high low mask_high mask_low length : ℕ) → high < 2 ^ 64 → low < 2 ^ 64 → mask_low < 2 ^ 64 → length ≤ 128
    → joined mask_high mask_low ≡ ipv6_mask length → bit_and high mask_high ≡ high → bit_and low mask_low ≡ low
    → ipv6_of (ipv6_text high low (ipv6_length_of mask_high mask_low)) ≡ Some (record { high = high; low = low; length = length })
address_read high low mask_high mask_low length high_small low_small mask_small le is under_high under_low =
    let above : mask_high ≡ ipv6_mask length / 2 ^ 64 = omega (arith, is) in
    let below : mask_low ≡ ipv6_mask length % 2 ^ 64 = omega (arith, is) in
    ap₂ (λ a b. ipv6_of (ipv6_text high low (ipv6_length_of a b))) above below
    ∙ ap (λ n. ipv6_of (ipv6_text high low n)) (length-of_ipv6 length le)
    ∙ ipv6-read high low length high_small low_small le (ap (bit_and (high * 2 ^ 64 + low)) (sym is) ∙ joined_and high low mask_high mask_low low_small mask_small under_high under_low)

-- what is left after an address
abbrev after_address : (key mask : List ℕ) → Fields → FieldName → ℕ → Fields
after_address key mask fields name high =
    with_field_value (with_field_value (named fields name) high (value_by_number key high, value_by_number mask high))
    (high + 1) (value_by_number key (high + 1), value_by_number mask (high + 1))

put_address : (key mask : List ℕ) (name : FieldName) (high : ℕ) (fields : Fields) → high ≡ 2 * field_number name + 4 → high < 19
    → IsReadTo key mask high fields → IsReadTo key mask (suc (high + 1)) (after_address key mask fields name high)
put_address key mask name high fields place here read = record {
  key_read = copied_two key high fields.key.words here read.key_read;
  mask_read = copied_two mask high fields.mask.words here read.mask_read;
  free = λ other within which.
      let apart : other ≢ field_number name = λ same. elim which [
        | inl later ↦ omega (arith, same, place)
        | inr (none, le) ↦ omega (arith, same, place)
      ] in
      get_or-set_other fields.given (field_number name) other true false apart
      ∙ read.free other within (elim which [ inl later ↦ inl (omega arith) | inr (none, le) ↦ inr (none, omega arith) ]);
}

skipped_two : (key mask : List ℕ) → AreFields (values_of key) (values_of mask) → (high : ℕ) (fields : Fields) → high < 19
    → value_by_number mask high ≡ 0 → value_by_number mask (high + 1) ≡ 0 → IsReadTo key mask high fields → IsReadTo key mask (suc (high + 1)) fields
skipped_two key mask are high fields here none none_low read =
    let next : high + 1 ≡ suc high = omega arith in
    subst (λ n. IsReadTo key mask (suc n) fields) (sym next)
    (skipped key mask are (suc high) fields (omega arith) (ap (value_by_number mask) (sym next) ∙ none_low)
    (skipped key mask are high fields (omega arith) none read))

-- what is known of the row of an IPv6 address
record IsAddress (key mask : List ℕ) (name : FieldName) (high : ℕ) : Type 0 where
  place : high ≡ 2 * field_number name + 4
  here : high < 19
  small : (words : List ℕ) → (value_by_number words high < 2 ^ 64) × (value_by_number words (high + 1) < 2 ^ 64)
  is_prefix : IsPrefix 128 (joined (value_by_number mask high) (value_by_number mask (high + 1)))
  one : (value_by_number mask (field_number name) ≡ 0) ⊎ (joined (value_by_number mask high) (value_by_number mask (high + 1)) ≡ 0)
  header : (fields : Fields) → has_header fields name ≡ true
  taken : (fields : Fields) (text : List ℕ) → has_colon text ≡ true → with_field fields name text ≡ with_ipv6 fields name high text

address_taken : (key mask : List ℕ) → AreFields (values_of key) (values_of mask) → (name : FieldName) (high : ℕ) → IsAddress key mask name high → (fields : Fields) →
    with_field fields name (ipv6_text (value_by_number key high) (value_by_number key (high + 1)) (ipv6_length_of (value_by_number mask high) (value_by_number mask (high + 1))))
    ≡ Some (after_address key mask fields name high)
address_taken key mask are name high row fields =
    let (length, le, is) = row.is_prefix in
    let bound = row.here in
    let small = row.small key in
    let mask_small = (row.small mask).1 in
    let above : ipv6_mask length / 2 ^ 64 ≡ value_by_number mask high = omega (arith, is, mask_small) in
    let below : ipv6_mask length % 2 ^ 64 ≡ value_by_number mask (high + 1) = omega (arith, is, mask_small) in
    row.taken fields _ (ipv6_has_colon _ _ _)
    ∙ ap (option_map (with_prefix (named fields name) high))
    (address_read (value_by_number key high) (value_by_number key (high + 1)) (value_by_number mask high) (value_by_number mask (high + 1)) length small.0 small.1 mask_small le is
    (under_mask key mask are high (omega (arith, bound))) (under_mask key mask are (high + 1) (omega (arith, bound))))
    ∙ ap₂ (λ a b. Some (with_field_value (with_field_value (named fields name) high (value_by_number key high, a)) (high + 1) (value_by_number key (high + 1), b))) above below

both_zero : (a b : ℕ) → (a == 0 && b == 0) ≡ true → (a ≡ 0) × (b ≡ 0)
both_zero a b h = (grind (arith, nat_tests), grind (arith, nat_tests))

address_is : (key mask : List ℕ) → AreFields (values_of key) (values_of mask) → (More : Head → List (List ℕ) → Type 0) (head : Head) (name : FieldName) (high : ℕ) (fields : Fields) (rest : List (List ℕ))
    → IsAddress key mask name high → IsReadTo key mask high fields
    → ((next : Fields) → IsReadTo key mask (suc (high + 1)) next → Pairs field_setting More (head_with head next) rest)
    → Pairs field_setting More (head_with head fields) (prefix_words key mask high (name_text name) ++ rest)
address_is key mask are More head name high fields rest row read more =
    by (value_by_number mask high == 0 && value_by_number mask (high + 1) == 0) refl
  where
    by : (t : Bool) → (value_by_number mask high == 0 && value_by_number mask (high + 1) == 0) ≡ t
        → Pairs field_setting More (head_with head fields) ((if t then [] else
        name_text name ∷ ipv6_text (value_by_number key high) (value_by_number key (high + 1)) (ipv6_length_of (value_by_number mask high) (value_by_number mask (high + 1))) ∷ []) ++ rest)
    by true is =
        let (none, none_low) = both_zero (value_by_number mask high) (value_by_number mask (high + 1)) is in
        more fields (skipped_two key mask are high fields row.here none none_low read)
    by false is =
        let place = row.place in
        let unnamed : value_by_number mask (field_number name) ≡ 0 = elim row.one [
          | inl none ↦ none
          | inr none ↦ absurd (cc (sym is ∙ ap₂ (λ a b. a == 0 && b == 0) (let e : value_by_number mask high ≡ 0 = omega (arith, none) in e) (let e : value_by_number mask (high + 1) ≡ 0 = omega (arith, none) in e)))
        ] in
        pair_is field_name head_refuses head_takes More (head_with head fields) (name_text name) _ rest name (head_with head (after_address key mask fields name high))
        (name_is name)
        (may_stand fields name (read.free (field_number name) (below_sixteen name) (inr (unnamed, omega (arith, place)))) (row.header fields))
        (ap (option_map (λ it. head_with head it)) (address_taken key mask are name high row fields))
        (more (after_address key mask fields name high) (put_address key mask name high fields place row.here read))

half : (mask : List ℕ) (high : ℕ) → high < 19 → IsPrefix 128 (joined (get_or (values_of mask) high 0) (get_or (values_of mask) (suc high) 0))
    → IsPrefix 128 (joined (value_by_number mask high) (value_by_number mask (suc high)))
half mask high here is = subst (IsPrefix 128) (ap₂ joined (value_at mask high 0 (omega arith)) (value_at mask (suc high) 0 (omega arith))) is

one_address : (mask : List ℕ) (name high : ℕ) → name < 16 → high < 19
    → (get_or (values_of mask) name 0 ≡ 0) ⊎ (joined (get_or (values_of mask) high 0) (get_or (values_of mask) (suc high) 0) ≡ 0)
    → (value_by_number mask name ≡ 0) ⊎ (joined (value_by_number mask high) (value_by_number mask (suc high)) ≡ 0)
one_address mask name high within here (inl none) = inl (sym (value_at mask name 0 (omega arith)) ∙ none)
one_address mask name high within here (inr none) = inr (sym (ap₂ joined (value_at mask high 0 (omega arith)) (value_at mask (suc high) 0 (omega arith))) ∙ none)

source : (key mask : List ℕ) → AreFields (values_of key) (values_of mask) → IsAddress key mask names.SrcIp 16
source key mask are = record {
  place = refl;
  here = lit< tt;
  small = λ words. (half_fits words 16 (inl refl), half_fits words 17 (inr (inl refl)));
  is_prefix = half mask 16 (lit< tt) are.src_ip6;
  one = one_address mask 6 16 (lit< tt) (lit< tt) are.one_source;
  header = λ fields. refl;
  taken = λ fields text colon. ap (λ (b : Bool). if b then with_ipv6 fields names.SrcIp 16 text else with_one fields names.SrcIp text) colon;
}

destination : (key mask : List ℕ) → AreFields (values_of key) (values_of mask) → IsAddress key mask names.DstIp 18
destination key mask are = record {
  place = refl;
  here = lit< tt;
  small = λ words. (half_fits words 18 (inr (inr (inl refl))), half_fits words 19 (inr (inr (inr refl))));
  is_prefix = half mask 18 (lit< tt) are.dst_ip6;
  one = one_address mask 7 18 (lit< tt) (lit< tt) are.one_destination;
  header = λ fields. refl;
  taken = λ fields text colon. ap (λ (b : Bool). if b then with_ipv6 fields names.DstIp 18 text else with_one fields names.DstIp text) colon;
}

-- All printed fields, and what follows them. What is read of them has the words of the key and of the mask.
pub all_fields_are : (key mask : List ℕ) → length key ≡ 14 → length mask ≡ 14 → AreKeys key mask → (More : Head → List (List ℕ) → Type 0) (head : Head) (rest : List (List ℕ))
    → ((next : Fields) → next.key.words ≡ key → next.mask.words ≡ mask → More (head_with head next) rest)
    → Pairs field_setting More (head_with head no_fields) (fields_words key mask ++ rest)
all_fields_are key mask key_count mask_count keys More head rest more =
    joined_is (Pairs field_setting More (head_with head no_fields)) (named_words key mask all_names) (prefixes_words key mask) rest
    (fields_are key mask keys.fields More head 0 16 all_names no_fields (prefixes_words key mask ++ rest)
    (refl, (refl, (refl, (refl, (refl, (refl, (refl, (refl, (refl, (refl, (refl, (refl, (refl, (refl, (refl, (refl, refl)))))))))))))))) (read_none key mask)
    (λ named_next named_read.
    joined_is (Pairs field_setting More (head_with head named_next)) (prefix_words key mask 16 (name_text names.SrcIp)) (prefix_words key mask 18 (name_text names.DstIp)) rest
    (address_is key mask keys.fields More head names.SrcIp 16 named_next (prefix_words key mask 18 (name_text names.DstIp) ++ rest) (source key mask keys.fields) named_read
    (λ source_next source_read.
    address_is key mask keys.fields More head names.DstIp 18 source_next rest (destination key mask keys.fields) source_read
    (λ next read.
    pairs_end field_setting More (head_with head next) rest
    (more next (copied_all key next.key.words key_count keys.key_tidy read.key_read) (copied_all mask next.mask.words mask_count keys.mask_tidy read.mask_read)))))))
