-- The addresses of network cards, with a mask behind them.
use Rattle.std.specs.Prelude.{ℕ, ◌-◌, ◌^◌, ◌==◌, bit_and, List, [], ◌∷◌, Option, Some, None}
use Rattle.std.specs.List.{slice_split}
use Rattle.std.specs.Option.{option_map, option_or}
use Rattle.tc_words.specs.Numbers.{decimal_of}
use Rattle.tc_words.specs.Groups.{of_just, groups_of}

-- RFC 6991, section 4 (mac-address): the 48 bits of an address of IEEE 802 as six octets, the highest first,
-- each in two hexadecimal digits, with colons between
unfoldable pub mac_address_of : List ℕ → Option ℕ
mac_address_of text = of_just 6 (groups_of 2 2 6 (slice_split (λ b. b == 58) text))

-- the mask whose highest bits, as many as the length says, are 1
abbrev pub mac_length_mask : ℕ → ℕ
mac_length_mask length = 2 ^ 48 - 2 ^ (48 - length)

-- tc-flower(8), dst_mac: a mask is an address, or else a number of high bits. That this is decimal is this
-- project's own.
abbrev pub mac_mask_of : List ℕ → Option ℕ
mac_mask_of text = option_or (mac_address_of text) (option_map mac_length_mask (decimal_of text 48))

-- the mask by what stands behind the address: all 48 bits where nothing does
abbrev pub mac_mask_behind : List (List ℕ) → Option ℕ
mac_mask_behind [] = Some (2 ^ 48 - 1)
mac_mask_behind (mask ∷ []) = mac_mask_of mask
mac_mask_behind (mask ∷ next ∷ more) = None

-- the address AND the mask, and then the mask
abbrev pub masked_mac : Option ℕ → Option ℕ → Option (ℕ × ℕ)
masked_mac (Some address) (Some mask) = Some (bit_and address mask, mask)
masked_mac address mask = None

abbrev pub mac_of_parts : List (List ℕ) → Option (ℕ × ℕ)
mac_of_parts [] = None
mac_of_parts (address ∷ masks) = masked_mac (mac_address_of address) (mac_mask_behind masks)

-- tc-flower(8), dst_mac: an address, or an address, a slash and a mask
unfoldable pub mac_of : List ℕ → Option (ℕ × ℕ)
mac_of word = mac_of_parts (slice_split (λ b. b == 47) word)
