-- Numbers in decimal digits, and those that may be in hexadecimal digits.
use Rattle.std.specs.Prelude.{ℕ, ◌+◌, ◌-◌, ◌*◌, Bool, true, false, ◌&&◌, ◌||◌, ◌==◌, nat_le, nat_lt, List}
use Rattle.std.specs.Prelude.{length, drop, fold, slice_index, Option, Some, None, if◌then◌else◌}
use Rattle.std.specs.List.{list_all}
use Rattle.std.specs.Char.{is_ascii_digit}
use Rattle.tc_words.specs.Hexadecimal.{hex_of}

-- the number that digits spell; the digit 0 is the byte 48
abbrev pub digits_value : List ℕ → ℕ
digits_value word = fold (λ n digit. 10 * n + (digit - 48)) 0 word

-- no digit, or a needless 0 in front
abbrev pub is_misbegun : List ℕ → Bool
is_misbegun word = if length word == 0 then true else nat_lt 1 (length word) && slice_index word 0 == 48

-- the number that a word of digits alone spells, up to a greatest one
abbrev pub value_up_to : List ℕ → ℕ → Option ℕ
value_up_to word most =
    if list_all is_ascii_digit word && nat_le (digits_value word) most then Some (digits_value word) else None

-- digits, at least one, and no needless 0 in front
abbrev pub is_decimal : List ℕ → Bool
is_decimal word =
    if length word == 0 then false
    else if nat_lt 1 (length word) && slice_index word 0 == 48 then false
    else list_all is_ascii_digit word

-- the number that a word spells, up to a greatest one
unfoldable pub decimal_of : List ℕ → ℕ → Option ℕ
decimal_of word most = if is_decimal word && nat_le (digits_value word) most then Some (digits_value word)
    else None

-- `0x` or `0X` stands in front
abbrev pub has_hex_mark : List ℕ → Bool
has_hex_mark word = (nat_lt 1 (length word) && slice_index word 0 == 0x30)
    && (slice_index word 1 == 0x78 || slice_index word 1 == 0x58)

-- a number, up to a greatest one
abbrev pub up_to : ℕ → Option ℕ → Option ℕ
up_to most None = None
up_to most (Some number) = if nat_le number most then Some number else None

-- the number that a word spells in 1 to 8 hexadecimal digits behind such a mark, or else in decimal digits,
-- up to a greatest one. The forms are this project's own, after those that `tc` reads.
unfoldable pub number_of : List ℕ → ℕ → Option ℕ
number_of word most = if has_hex_mark word then up_to most (hex_of (drop 2 word) 8) else decimal_of word most
