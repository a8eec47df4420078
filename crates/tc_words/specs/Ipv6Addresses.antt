-- IPv6 addresses in groups of hexadecimal digits, with the length of a prefix behind them.
use Rattle.std.specs.Prelude.{ℕ, ◌+◌, ◌-◌, ◌*◌, ◌/◌, ◌%◌, ◌^◌, Bool, ◌&&◌, ◌==◌, nat_lt, bit_and, List, []}
use Rattle.std.specs.Prelude.{◌∷◌, length, take, drop, position, Option, Some, None, if◌then◌else◌}
use Rattle.std.specs.List.{slice_split, zip}
use Rattle.std.specs.Option.{option_map}
use Rattle.tc_words.specs.Numbers.{decimal_of}
use Rattle.tc_words.specs.Groups.{groups_of, of_just}
use Rattle.tc_words.specs.declared.ipv6_addresses.Ipv6Word.{Ipv6Word}

-- two colons
abbrev pub are_colons : ℕ × ℕ → Bool
are_colons pair = pair.0 == 58 && pair.1 == 58

-- the place of the first `::`, by each byte of the text beside the next
abbrev pub gap_place : List ℕ → Option ℕ
gap_place text = position are_colons (zip text (drop 1 text))

-- what stands before the first `::`, and what behind it
abbrev pub cut_at_gap : List ℕ → Option (List ℕ × List ℕ)
cut_at_gap text = option_map (λ at. (take at text, drop (at + 2) text)) (gap_place text)

-- groups of 16 bits in 1 to 4 hexadecimal digits, with colons between: how many, and the number that they
-- make
abbrev pub ipv6_groups : List ℕ → Option (ℕ × ℕ)
ipv6_groups text = groups_of 1 4 8 (slice_split (λ b. b == 58) text)

-- the groups before a `::` or behind it, where there may be none
abbrev pub groups_beside : List ℕ → Option (ℕ × ℕ)
groups_beside text = if length text == 0 then Some (0, 0) else ipv6_groups text

-- RFC 4291, section 2.2: `::` stands for one or more groups of 0, so that there are 8 in all
abbrev pub joined_around_gap : Option (ℕ × ℕ) → Option (ℕ × ℕ) → Option ℕ
joined_around_gap (Some front) (Some back) = if nat_lt (front.0 + back.0) 8
    then Some (front.1 * 65536 ^ (8 - front.0) + back.1) else None
joined_around_gap front back = None

-- the address of a text by its cut at `::`. A second `::` leaves a group without digits, which is none.
abbrev pub address_by_gap : List ℕ → Option (List ℕ × List ℕ) → Option ℕ
address_by_gap text None = of_just 8 (ipv6_groups text)
address_by_gap text (Some (front, back)) = joined_around_gap (groups_beside front) (groups_beside back)

-- RFC 4291, section 2.2, forms 1 and 2: the 128 bits of an address, the first group highest. That form 3,
-- with dotted decimal at the end, is refused is this project's own.
unfoldable pub ipv6_address_of : List ℕ → Option ℕ
ipv6_address_of text = address_by_gap text (cut_at_gap text)

-- the mask whose highest bits, as many as the length says, are 1
abbrev pub ipv6_mask : ℕ → ℕ
ipv6_mask bits = 2 ^ 128 - 2 ^ (128 - bits)

-- a number of 128 bits in its two halves, beside a length
abbrev pub ipv6_halves : ℕ → ℕ → Ipv6Word
ipv6_halves number bits = record { high = number / 2 ^ 64; low = number % 2 ^ 64; length = bits }

-- RFC 4291, section 2.3: a prefix keeps the highest bits of the address, as many as its length says
abbrev pub ipv6_prefix : Option ℕ → Option ℕ → Option Ipv6Word
ipv6_prefix (Some address) (Some bits) = Some (ipv6_halves (bit_and address (ipv6_mask bits)) bits)
ipv6_prefix address bits = None

-- the length by what stands behind the address: all 128 bits where nothing does
abbrev pub ipv6_length_behind : List (List ℕ) → Option ℕ
ipv6_length_behind [] = Some 128
ipv6_length_behind (bits ∷ []) = decimal_of bits 128
ipv6_length_behind (bits ∷ next ∷ more) = None

abbrev pub ipv6_of_parts : List (List ℕ) → Option Ipv6Word
ipv6_of_parts [] = None
ipv6_of_parts (address ∷ lengths) = ipv6_prefix (ipv6_address_of address) (ipv6_length_behind lengths)

-- RFC 4291, section 2.3: an address, or an address, a slash and the length of a prefix
unfoldable pub ipv6_of : List ℕ → Option Ipv6Word
ipv6_of word = ipv6_of_parts (slice_split (λ b. b == 47) word)
