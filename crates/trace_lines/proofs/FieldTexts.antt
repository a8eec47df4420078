-- The words of fields go by the values alone.
use Rattle.std.proofs.Common.{◌≡◌, ◌∙◌, ℕ, ◌+◌, ◌<◌, List, [], ◌∷◌, ◌++◌, get_or, refl, sym, ap, ap₂, arith}
use Rattle.std.specs.Prelude.{◌==◌, ◌&&◌, if◌then◌else◌, codes}
use Rattle.flow_fields.specs.Values.{values_of}
use Rattle.flow_fields.proofs.Puts.{value_at}
use Rattle.flow_mask.specs.Masks.{each_and}
use Rattle.line_texts.specs.Texts.{ipv6_text, ipv6_length_of}
use Rattle.tc_batch.specs.declared.field_name.FieldName.{FieldName}
use Rattle.tc_batch.specs.FieldNames.{field_number}
use Rattle.tc_print.specs.FieldWords.{value_by_number, name_text, value_text, field_words, prefix_words, named_words, all_names, fields_words}
use Rattle.tc_print.proofs.ReadsFields.{below_sixteen}
use Rattle.trace_lines.specs.Fields.{words_with, whole_masks, value_words, key_under, sought_words}
use Rattle.trace_lines.proofs.KeyWords.{values_with}

same_value : (one other : List ℕ) (field : ℕ) → values_of one ≡ values_of other → field < 20 → value_by_number one field ≡ value_by_number other field
same_value one other field same here =
    sym (value_at one field 0 here) ∙ ap (λ (vs : List ℕ). get_or vs field 0) same ∙ value_at other field 0 here

-- a field by its value and its mask
abbrev named_by : List ℕ → (ℕ → ℕ → List ℕ) → ℕ → ℕ → List (List ℕ)
named_by name text value mask = if mask == 0 then [] else name ∷ text value mask ∷ []

field_same : (key other mask more : List ℕ) (name : FieldName) → values_of key ≡ values_of other → values_of mask ≡ values_of more
    → field_words key mask name ≡ field_words other more name
field_same key other mask more name keys masks =
    let low : field_number name < 16 = below_sixteen name in
    let here : field_number name < 20 = omega (arith, low) in
    ap₂ (named_by (name_text name) (value_text name)) (same_value key other (field_number name) keys here) (same_value mask more (field_number name) masks here)

named_same : (key other mask more : List ℕ) (names : List FieldName) → values_of key ≡ values_of other → values_of mask ≡ values_of more
    → named_words key mask names ≡ named_words other more names
named_same key other mask more [] keys masks = refl
named_same key other mask more (name ∷ names) keys masks =
    ap₂ (λ (a b : List (List ℕ)). a ++ b) (field_same key other mask more name keys masks) (named_same key other mask more names keys masks)

-- an address by its halves and their masks
abbrev address_by : List ℕ → ℕ → ℕ → ℕ → ℕ → List (List ℕ)
address_by name high low mask_high mask_low =
    if mask_high == 0 && mask_low == 0 then [] else name ∷ ipv6_text high low (ipv6_length_of mask_high mask_low) ∷ []

prefix_same : (key other mask more : List ℕ) (high : ℕ) (name : List ℕ) → high < 19 → values_of key ≡ values_of other → values_of mask ≡ values_of more
    → prefix_words key mask high name ≡ prefix_words other more high name
prefix_same key other mask more high name here keys masks =
    let first : high < 20 = omega arith in
    let second : high + 1 < 20 = omega arith in
    ap₂ (λ h l. address_by name h l (value_by_number mask high) (value_by_number mask (high + 1)))
    (same_value key other high keys first) (same_value key other (high + 1) keys second)
    ∙ ap₂ (address_by name (value_by_number other high) (value_by_number other (high + 1)))
    (same_value mask more high masks first) (same_value mask more (high + 1) masks second)

pub fields_same : (key other mask more : List ℕ) → values_of key ≡ values_of other → values_of mask ≡ values_of more
    → fields_words key mask ≡ fields_words other more
fields_same key other mask more keys masks =
    ap₂ (λ (a b : List (List ℕ)). a ++ b) (named_same key other mask more all_names keys masks)
    (ap₂ (λ (a b : List (List ℕ)). a ++ b) (prefix_same key other mask more 16 (codes "src_ip") (omega arith) keys masks)
    (prefix_same key other mask more 18 (codes "dst_ip") (omega arith) keys masks))

-- the fields of a frame
pub frame_told : (key mask : List ℕ) → mask ≡ words_with (whole_masks (values_of key)) → fields_words key mask ≡ value_words (values_of key)
unfolding value_words
frame_told key mask is =
    fields_same key (words_with (values_of key)) mask (words_with (whole_masks (values_of key))) (sym (values_with key)) (ap values_of is)

-- what is looked for, under one of two masks that have the same fields
pub key_same : (values mask more : List ℕ) → values_of mask ≡ values_of more → key_under values mask ≡ key_under values more
key_same values mask more masks = ap (λ (ms : List ℕ). words_with (each_and values ms)) masks

pub sought_same : (values mask more : List ℕ) → values_of mask ≡ values_of more → sought_words values mask ≡ sought_words values more
unfolding sought_words
sought_same values mask more masks =
    fields_same (key_under values mask) (key_under values more) mask more (ap values_of (key_same values mask more masks)) masks
