-- The values of the fields in the words of a key.
use Rattle.std.specs.Prelude.{◌≡◌, ℕ, Bool, false, ◌+◌, ◌*◌, ◌/◌, ◌%◌, ◌^◌, List, [], ◌∷◌, map, slice_index}
use Rattle.std.specs.Prelude.{slice_set}
use Rattle.std.specs.Int.{bit_at}
use Rattle.std.specs.List.{list_any}
use Rattle.flow_fields.specs.Table.{Field, fields, field_at, has_bit}

-- some bits of a number
abbrev pub bits_of : ℕ → ℕ → ℕ → ℕ
bits_of number shift width = number / 2 ^ shift % 2 ^ width

-- the number with other bits there: those above, the value, and those below
abbrev pub with_bits : ℕ → ℕ → ℕ → ℕ → ℕ
with_bits number shift width value =
    (number / 2 ^ shift / 2 ^ width * 2 ^ width + value) * 2 ^ shift + number % 2 ^ shift

-- the value of a field in a key
abbrev pub value_in : Field → List ℕ → ℕ
value_in field words = bits_of (slice_index words field.word) field.shift field.width

-- the words with another value in a field
abbrev pub with_value : List ℕ → ℕ → ℕ → List ℕ
with_value words i value =
    slice_set words (field_at i).word
    (with_bits (slice_index words (field_at i).word) (field_at i).shift (field_at i).width value)

-- the values of all fields, in order
abbrev pub values_of : List ℕ → List ℕ
values_of words = map (λ field. value_in field words) fields

-- the values where each field is 0
abbrev pub zeros : List ℕ
zeros = 0 ∷ 0 ∷ 0 ∷ 0 ∷ 0 ∷ 0 ∷ 0 ∷ 0 ∷ 0 ∷ 0 ∷ 0 ∷ 0 ∷ 0 ∷ 0 ∷ 0 ∷ 0 ∷ 0 ∷ 0 ∷ 0 ∷ 0 ∷ []

-- some field has that bit of that word; a bit that no field has is stray
abbrev pub in_field : ℕ → ℕ → Bool
in_field word bit = list_any (has_bit word bit) fields

-- the stray bits are 0
abbrev pub IsTidy : List ℕ → Type 0
IsTidy words = (word bit : ℕ) → in_field word bit ≡ false → bit_at (slice_index words word) bit ≡ 0

-- the stray bits stayed
abbrev pub SameStrays : List ℕ → List ℕ → Type 0
SameStrays old new = (word bit : ℕ) → in_field word bit ≡ false → bit_at (slice_index new word) bit
    ≡ bit_at (slice_index old word) bit
