-- Numbers in hexadecimal digits.
use Rattle.std.specs.Prelude.{ℕ, ◌+◌, ◌*◌, Bool, false, ◌&&◌, ◌==◌, nat_lt, List, length, drop, fold}
use Rattle.std.specs.Prelude.{slice_index, Option, Some, None, if◌then◌else◌}
use Rattle.std.specs.List.{list_all}
use Rattle.std.specs.Char.{is_ascii_hexdigit, digit_value}

-- the number that digits spell; a letter of either case is worth 10 to 15
abbrev pub hex_value : List ℕ → ℕ
hex_value digits = fold (λ n digit. 16 * n + digit_value digit) 0 digits

-- digits of either case, at least one and at most so many
abbrev pub is_hex : List ℕ → ℕ → Bool
is_hex text most =
    if length text == 0 then false
    else if nat_lt most (length text) then false
    else list_all is_ascii_hexdigit text

-- the number that a text of so many digits at most spells
unfoldable pub hex_of : List ℕ → ℕ → Option ℕ
hex_of text most = if is_hex text most then Some (hex_value text) else None

-- a word behind `0x`, or the whole of a word without it
abbrev pub without_hex_mark : List ℕ → List ℕ
without_hex_mark word = if (nat_lt 1 (length word) && slice_index word 0 == 0x30)
    && slice_index word 1 == 0x78 then drop 2 word else word

-- the number that a word of so many digits at most spells, with or without `0x` before them. The forms of
-- words are this project's own, after those that `tc` reads.
unfoldable pub marked_hex_of : List ℕ → ℕ → Option ℕ
marked_hex_of word most = hex_of (without_hex_mark word) most
