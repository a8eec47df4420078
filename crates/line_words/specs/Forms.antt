-- What the words of a batch line spell, one form after the other. The forms are this project's own, after
-- those that tc-flower(8), tc-vlan(8) and tc-skbedit(8) describe; numbers and addresses alone stand with
-- `tc_words`.
use Rattle.std.specs.Prelude.{ℕ, Bool, ◌+◌, ◌*◌, ◌-◌, ◌^◌, ◌&&◌, ◌==◌, nat_le, nat_lt, bit_and, List, [], ◌∷◌}
use Rattle.std.specs.Prelude.{length, slice_index, codes, Option, Some, None, if◌then◌else◌}
use Rattle.std.specs.List.{slice_split}
use Rattle.std.specs.Option.{option_map, option_or}
use Rattle.std.specs.Str.{bytes_eq}
use Rattle.tc_base.specs.declared.hook.Proto.{Proto}
use Rattle.tc_base.specs.declared.hook.Proto.TheVariants.{All, Ether}
use Rattle.tc_words.specs.Hexadecimal.{hex_of, marked_hex_of}
use Rattle.tc_words.specs.Numbers.{number_of}
use Rattle.line_words.specs.EtherNames.{ether_name, is_the_name}

abbrev pub at_least : ℕ → Option ℕ → Option ℕ
at_least least None = None
at_least least (Some number) = if nat_le least number then Some number else None

-- a number in the range of its place
abbrev pub number_between : ℕ → ℕ → List ℕ → Option ℕ
number_between least most word = at_least least (number_of word most)

-- the EtherTypes of the two tags, by their names; each is known by its other spelling too (tc-vlan(8))
unfoldable pub tpid_of : List ℕ → Option ℕ
tpid_of word =
    if is_the_name word (ether_name 0x8100) then Some 0x8100
    else if bytes_eq word (codes "802.1q") then Some 0x8100
    else if is_the_name word (ether_name 0x88A8) then Some 0x88A8
    else if bytes_eq word (codes "802.1AD") then Some 0x88A8
    else None

-- `0x` stands in front
abbrev pub has_mark : List ℕ → Bool
has_mark word = (nat_lt 1 (length word) && slice_index word 0 == 0x30) && slice_index word 1 == 0x78

-- an EtherType in 1 to 4 hexadecimal digits behind `0x`
abbrev pub ether_number_of : List ℕ → Option ℕ
ether_number_of word = if has_mark word then marked_hex_of word 4 else None

-- an EtherType by its name or its number; `ipv4` is `ip` (tc(8))
unfoldable pub ether_type_of : List ℕ → Option ℕ
ether_type_of word =
    if is_the_name word (ether_name 0x0800) then Some 0x0800
    else if bytes_eq word (codes "ipv4") then Some 0x0800
    else if is_the_name word (ether_name 0x86DD) then Some 0x86DD
    else if is_the_name word (ether_name 0x0806) then Some 0x0806
    else option_or (tpid_of word) (ether_number_of word)

-- the protocol of a filter: `all`, or one EtherType
unfoldable pub protocol_of : List ℕ → Option Proto
protocol_of word = if bytes_eq word (codes "all") then Some All else option_map Ether (ether_type_of word)

-- IANA, Protocol Numbers: a protocol over IP by its name, or by 1 or 2 hexadecimal digits with or without
-- `0x`
unfoldable pub ip_protocol_of : List ℕ → Option ℕ
ip_protocol_of word =
    if bytes_eq word (codes "tcp") then Some 6
    else if bytes_eq word (codes "udp") then Some 17
    else if bytes_eq word (codes "icmp") then Some 1
    else if bytes_eq word (codes "icmpv6") then Some 58
    else if bytes_eq word (codes "sctp") then Some 132
    else marked_hex_of word 2

-- the two halves of 16 bits of a class
abbrev pub joined_class : Option ℕ → Option ℕ → Option ℕ
joined_class (Some major) (Some minor) = Some (major * 65536 + minor)
joined_class major minor = None

abbrev pub class_of_parts : List (List ℕ) → Option ℕ
class_of_parts (major ∷ minor ∷ []) = joined_class (hex_of major 4) (hex_of minor 4)
class_of_parts parts = None

-- tc(8), classid: two groups of 1 to 4 hexadecimal digits with a colon between
unfoldable pub class_of : List ℕ → Option ℕ
class_of word = class_of_parts (slice_split (λ b. b == 58) word)

-- the value AND the mask, and then the mask
abbrev pub under_mask : Option ℕ → Option ℕ → Option (ℕ × ℕ)
under_mask (Some value) (Some mask) = Some (bit_and value mask, mask)
under_mask value mask = None

-- a value alone, which counts in all bits, or a value and a mask of the same form
abbrev pub masked_by : (List ℕ → Option ℕ) → ℕ → List (List ℕ) → Option (ℕ × ℕ)
masked_by says whole (value ∷ []) = under_mask (says value) (Some whole)
masked_by says whole (value ∷ mask ∷ []) = under_mask (says value) (says mask)
masked_by says whole parts = None

-- tc-flower(8), ip_tos and tcp_flags: up to so many hexadecimal digits with or without `0x`, and behind a
-- slash a mask alike
unfoldable pub masked_hex_of : List ℕ → ℕ → Option (ℕ × ℕ)
masked_hex_of word digits =
    masked_by (λ part. marked_hex_of part digits) (16 ^ digits - 1) (slice_split (λ b. b == 47) word)

-- tc-flower(8), ip_ttl: a number of 8 bits, and behind a slash a mask alike
unfoldable pub masked_octet_of : List ℕ → Option (ℕ × ℕ)
masked_octet_of word = masked_by (λ part. number_of part 255) 255 (slice_split (λ b. b == 47) word)
