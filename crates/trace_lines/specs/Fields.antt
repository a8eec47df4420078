-- The fields of a frame and of a look-up, in the words of a filter's line (this project's own, after
-- tc-flower(8)).
use Rattle.std.specs.Prelude.{ℕ, ◌+◌, ◌-◌, ◌^◌, ◌==◌, ◌||◌, not, nat_lt, Bool, List, [], ◌∷◌, map}
use Rattle.std.specs.Prelude.{slice_index, codes, if◌then◌else◌}
use Rattle.std.specs.List.{range_with_len}
use Rattle.frame_edit.specs.Tags.{ether_type_of}
use Rattle.flow_dissect.specs.Fields.{frame_values}
use Rattle.flow_fields.specs.Table.{field_at}
use Rattle.flow_fields.specs.Values.{values_of, with_value}
use Rattle.flow_mask.specs.Masks.{each_and}
use Rattle.line_texts.specs.Texts.{ether_type_text}
use Rattle.tc_print.specs.FieldWords.{fields_words}

-- ---- the words of a key by the values of its fields
abbrev pub no_words : List ℕ
no_words = 0 ∷ 0 ∷ 0 ∷ 0 ∷ 0 ∷ 0 ∷ 0 ∷ 0 ∷ 0 ∷ 0 ∷ 0 ∷ 0 ∷ 0 ∷ 0 ∷ []

-- with these values in the fields from a number on
abbrev pub set_from : ℕ → List ℕ → List ℕ → List ℕ
set_from field [] words = words
set_from field (value ∷ values) words = set_from (field + 1) values (with_value words field value)

abbrev pub words_with : List ℕ → List ℕ
words_with values = set_from 0 values no_words

-- ---- a frame
-- an IPv6 address is two fields, of which one isn't 0
abbrev pub has_address : List ℕ → ℕ → Bool
has_address values high = not (slice_index values high == 0) || not (slice_index values (high + 1) == 0)

-- a field that is told: its value isn't 0, or it is half of an address that isn't
abbrev pub is_told : List ℕ → ℕ → Bool
is_told values field =
    if nat_lt field 16 then not (slice_index values field == 0)
    else if nat_lt field 18 then has_address values 16 else has_address values 18

-- the masks that are whole in the fields that are told
abbrev pub whole_at : List ℕ → ℕ → ℕ
whole_at values field = if is_told values field then 2 ^ (field_at field).width - 1 else 0

abbrev pub whole_masks : List ℕ → List ℕ
whole_masks values = map (whole_at values) (range_with_len 0 20)

-- THE FIELDS OF A FRAME that are told
unfoldable pub value_words : List ℕ → List (List ℕ)
value_words values = fields_words (words_with values) (words_with (whole_masks values))

-- `fields protocol X FIELD VALUE ..`, the EtherType being the frame's outermost
abbrev pub frame_words : List ℕ → List (List ℕ)
frame_words bytes = codes "fields" ∷ codes "protocol" ∷ ether_type_text (ether_type_of bytes)
    ∷ value_words (frame_values bytes)

-- ---- a look-up
-- the key that is looked for: the frame's values under the words of the mask
abbrev pub key_under : List ℕ → List ℕ → List ℕ
key_under values mask = words_with (each_and values (values_of mask))

-- WHAT IS LOOKED FOR, field by field
unfoldable pub sought_words : List ℕ → List ℕ → List (List ℕ)
sought_words values mask = fields_words (key_under values mask) mask
