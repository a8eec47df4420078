-- IPv4 addresses in dotted decimal, with the length of a prefix behind them.
use Rattle.std.specs.Prelude.{ℕ, ◌+◌, ◌-◌, ◌*◌, ◌^◌, ◌==◌, bit_and, List, [], ◌∷◌, Option, Some, None}
use Rattle.std.specs.List.{slice_split}
use Rattle.tc_words.specs.Numbers.{decimal_of}

-- RFC 791, section 2.3: four octets make an address of 32 bits, the highest first
abbrev pub joined_octets : Option ℕ → Option ℕ → Option ℕ → Option ℕ → Option ℕ
joined_octets (Some a) (Some b) (Some c) (Some d) = Some (((a * 256 + b) * 256 + c) * 256 + d)
joined_octets a b c d = None

-- four words, each the decimal number of an octet
abbrev pub octets_of : List (List ℕ) → Option ℕ
octets_of (a ∷ b ∷ c ∷ d ∷ []) =
    joined_octets (decimal_of a 255) (decimal_of b 255) (decimal_of c 255) (decimal_of d 255)
octets_of parts = None

-- RFC 1123, section 2.1: an address in dotted decimal is four octets with dots between. A needless 0 in
-- front, which some programs read as octal, is refused: that is this project's own.
unfoldable pub address_of : List ℕ → Option ℕ
address_of text = octets_of (slice_split (λ b. b == 46) text)

-- RFC 4632, section 3.1: the mask whose highest bits, as many as the length says, are 1
abbrev pub prefix_mask : ℕ → ℕ
prefix_mask length = 2 ^ 32 - 2 ^ (32 - length)

-- the address AND the mask, and then the mask
abbrev pub masked_prefix : Option ℕ → Option ℕ → Option (ℕ × ℕ)
masked_prefix (Some address) (Some length) = Some (bit_and address (prefix_mask length), prefix_mask length)
masked_prefix address length = None

-- an address alone, which counts in all its 32 bits, or an address and a length
abbrev pub prefix_of : List (List ℕ) → Option (ℕ × ℕ)
prefix_of (address ∷ []) = masked_prefix (address_of address) (Some 32)
prefix_of (address ∷ length ∷ []) = masked_prefix (address_of address) (decimal_of length 32)
prefix_of parts = None

-- RFC 4632, section 3.1: an address, or an address, a slash and the length of a prefix
unfoldable pub ipv4_of : List ℕ → Option (ℕ × ℕ)
ipv4_of word = prefix_of (slice_split (λ b. b == 47) word)
