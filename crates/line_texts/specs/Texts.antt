-- The words of a batch line as they are printed, one form after the other. Which of the forms that tc(8),
-- tc-flower(8), tc-vlan(8) and tc-skbedit(8) describe is printed is this project's own.
use Rattle.std.specs.Prelude.{ℕ, ◌+◌, ◌-◌, ◌/◌, ◌%◌, ◌^◌, ◌==◌, false, List, [], ◌∷◌, ◌++◌, codes}
use Rattle.std.specs.Prelude.{if◌then◌else◌}
use Rattle.std.specs.List.{join_with_byte}
use Rattle.std.specs.Char.{digit_char}
use Rattle.std.specs.Fmt.{decimal, digits}
use Rattle.std.specs.Int.{trailing_zeros}
use Rattle.std.specs.Option.{unwrap_or}
use Rattle.tc_base.specs.declared.hook.Proto.{Proto}
use Rattle.tc_base.specs.declared.hook.Proto.TheVariants.{All, Ether}
use Rattle.line_words.specs.EtherNames.{ether_name}
use mir.Syntax.{w32, w64}

-- hexadecimal digits in lower case, with no needless 0 in front
abbrev pub hex_text : ℕ → List ℕ
hex_text n = digits 16 false n

-- digits behind `0x`
abbrev pub marked : List ℕ → List ℕ
marked digits = 48 ∷ 120 ∷ digits

-- this project's own: a handle as tc(8) shows it, in hexadecimal digits behind `0x`
unfoldable pub handle_text : ℕ → List ℕ
handle_text n = marked (hex_text n)

-- a number of 8 bits in just two hexadecimal digits
abbrev pub two_digits : ℕ → List ℕ
two_digits n = digit_char (n / 16) ∷ digit_char (n % 16) ∷ []

-- a number of 16 bits in just four hexadecimal digits
abbrev pub four_digits : ℕ → List ℕ
four_digits n = two_digits (n / 256) ++ two_digits (n % 256)

-- an EtherType by its name, or else by its number
unfoldable pub ether_type_text : ℕ → List ℕ
ether_type_text n = unwrap_or (ether_name n) (marked (four_digits n))

-- tc(8), protocol: each protocol, or one EtherType
abbrev pub protocol_text : Proto → List ℕ
protocol_text All = codes "all"
protocol_text (Ether n) = ether_type_text n

-- a protocol over IP by its name (IANA, Protocol Numbers), or else by its number
unfoldable pub ip_protocol_text : ℕ → List ℕ
ip_protocol_text n = if n == 6 then codes "tcp" else if n == 17 then codes "udp" else marked (two_digits n)

-- the halves of a number of 32 bits, each of 16 bits in hexadecimal digits, with a colon between
abbrev pub two_groups : ℕ → List ℕ
two_groups n = join_with_byte 58 (hex_text (n / 65536) ∷ hex_text (n % 65536) ∷ [])

-- tc(8), classid: the major and the minor number of a class
unfoldable pub class_text : ℕ → List ℕ
class_text n = two_groups n

-- tc-flower(8), ip_tos and tcp_flags: a value, a slash and a mask, each in hexadecimal digits behind `0x`
unfoldable pub masked_hex_text : ℕ → ℕ → List ℕ
masked_hex_text value mask = join_with_byte 47 (marked (hex_text value) ∷ marked (hex_text mask) ∷ [])

-- tc-flower(8), ip_ttl: a value, a slash and a mask, each in decimal digits
unfoldable pub masked_octet_text : ℕ → ℕ → List ℕ
masked_octet_text value mask = join_with_byte 47 (decimal value ∷ decimal mask ∷ [])

-- the octets of a number of 24 bits, the highest first, each in two digits, with colons between
abbrev pub three_octets : ℕ → List ℕ
three_octets n =
    join_with_byte 58 (two_digits (n / 65536) ∷ two_digits (n / 256 % 256) ∷ two_digits (n % 256) ∷ [])

-- RFC 6991, section 4 (mac-address): the six octets of 48 bits
abbrev pub mac_address_text : ℕ → List ℕ
mac_address_text n = join_with_byte 58 (three_octets (n / 2 ^ 24) ∷ three_octets (n % 2 ^ 24) ∷ [])

-- an address, a slash and a mask in the same form
abbrev pub masked_mac_text : ℕ → ℕ → List ℕ
masked_mac_text value mask = join_with_byte 47 (mac_address_text value ∷ mac_address_text mask ∷ [])

-- tc-flower(8), dst_mac: an address, and behind it the mask where not all 48 bits count
unfoldable pub mac_text : ℕ → ℕ → List ℕ
mac_text value mask = if mask == 0xFFFF_FFFF_FFFF then mac_address_text value else masked_mac_text value mask

-- two octets of 16 bits in decimal digits, with a dot between
abbrev pub two_octets : ℕ → List ℕ
two_octets n = join_with_byte 46 (decimal (n / 256) ∷ decimal (n % 256) ∷ [])

-- RFC 1123, section 2.1: the four octets of 32 bits
abbrev pub dotted : ℕ → List ℕ
dotted n = join_with_byte 46 (two_octets (n / 65536) ∷ two_octets (n % 65536) ∷ [])

-- RFC 4632, section 3.1: an address, a slash and the length of its prefix
unfoldable pub ipv4_text : ℕ → ℕ → List ℕ
ipv4_text value length = join_with_byte 47 (dotted value ∷ decimal length ∷ [])

-- the four groups of 64 bits
abbrev pub four_groups : ℕ → List ℕ
four_groups n = join_with_byte 58 (two_groups (n / 2 ^ 32) ∷ two_groups (n % 2 ^ 32) ∷ [])

-- RFC 4291, section 2.2, form 1: the eight groups of 128 bits, which come in two halves
abbrev pub ipv6_address_text : ℕ → ℕ → List ℕ
ipv6_address_text high low = join_with_byte 58 (four_groups high ∷ four_groups low ∷ [])

-- RFC 4291, section 2.3: an address, a slash and the length of its prefix
unfoldable pub ipv6_text : ℕ → ℕ → ℕ → List ℕ
ipv6_text high low length = join_with_byte 47 (ipv6_address_text high low ∷ decimal length ∷ [])

-- how many high bits stand above the zeros at the low end of 32 bits: of the mask of a prefix, its length
abbrev pub prefix_length_of : ℕ → ℕ
prefix_length_of mask = 32 - trailing_zeros w32 mask

-- the same of 128 bits, which come in two halves: of a mask the high half is all ones where the low half is
-- not 0
abbrev pub ipv6_length_of : ℕ → ℕ → ℕ
ipv6_length_of high low = (64 - trailing_zeros w64 high) + (64 - trailing_zeros w64 low)
