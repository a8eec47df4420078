-- The headers of an Ethernet frame, and where they stand. Bytes are counted from 0, and numbers are
-- big-endian.
use Rattle.std.specs.Prelude.{ℕ, ◌+◌, ◌-◌, ◌*◌, ◌%◌, Bool, not, ◌&&◌, ◌||◌, ◌==◌, nat_le, if◌then◌else◌, List}
use Rattle.std.specs.Prelude.{length, drop, slice_index}
use Rattle.byteorder.specs.Endian.{big_number}
use Rattle.frame_edit.specs.Tags.{two_at, has_ethernet, is_tag_type}

-- the number in the four bytes from a place on
abbrev pub four_at : List ℕ → ℕ → ℕ
four_at bytes at = big_number 4 (drop at bytes)

-- the number in the six bytes from a place on: two, and then four
abbrev pub six_at : List ℕ → ℕ → ℕ
six_at bytes at = two_at bytes at * 0x1_0000_0000 + four_at bytes (at + 2)

-- the number in the eight bytes from a place on
abbrev pub eight_at : List ℕ → ℕ → ℕ
eight_at bytes at = big_number 8 (drop at bytes)

-- a number that counts only under a condition: 0 elsewhere
abbrev pub where_so : Bool → ℕ → ℕ
where_so condition number = if condition then number else 0

-- IEEE 802.1Q, clause 9 (tag format): a tag is its own EtherType and two bytes of control information. It
-- counts as one only where the EtherType behind it is in the frame too, so a tag at a place takes six bytes
-- from there on.
abbrev pub has_tag_at : List ℕ → ℕ → Bool
has_tag_at bytes at = is_tag_type (two_at bytes at) && nat_le (at + 6) (length bytes)

-- the first tag stands behind the two addresses
abbrev pub has_first_tag : List ℕ → Bool
has_first_tag bytes = has_ethernet bytes && has_tag_at bytes 12

-- the second tag stands behind the first
abbrev pub has_second_tag : List ℕ → Bool
has_second_tag bytes = has_first_tag bytes && has_tag_at bytes 16

-- where the network header starts: behind the addresses, the tags that are there, and the EtherType
abbrev pub network_at : List ℕ → ℕ
network_at bytes =
    if has_second_tag bytes then 22
    else if has_first_tag bytes then 18
    else 14

-- the EtherType just before the network header
abbrev pub network_type : List ℕ → ℕ
network_type bytes = two_at bytes (network_at bytes - 2)

-- RFC 791, section 3.1: the low four bits of the first byte (IHL) tell the header's length in words of four
-- bytes
abbrev pub header_words : List ℕ → ℕ → ℕ
header_words bytes at = slice_index bytes at % 16

-- RFC 791, section 3.1: a header is at least 20 bytes long, so its IHL is at least 5. The version and the
-- lengths are not looked at, and options may be cut off: these two are this project's own rules.
abbrev pub is_ipv4_at : List ℕ → ℕ → Bool
is_ipv4_at bytes at = nat_le (at + 20) (length bytes) && nat_le 5 (header_words bytes at)

-- RFC 8200, section 3: a header is 40 bytes long. The version and the length are not looked at: this
-- project's own rule.
abbrev pub is_ipv6_at : List ℕ → ℕ → Bool
is_ipv6_at bytes at = nat_le (at + 40) (length bytes)

-- RFC 894: an IPv4 header stands behind the EtherType 0x0800
unfoldable pub has_ipv4 : List ℕ → Bool
has_ipv4 bytes = has_ethernet bytes && (network_type bytes == 0x0800 && is_ipv4_at bytes (network_at bytes))

-- RFC 2464, section 3: an IPv6 header stands behind the EtherType 0x86dd
unfoldable pub has_ipv6 : List ℕ → Bool
has_ipv6 bytes = has_ethernet bytes && (network_type bytes == 0x86dd && is_ipv6_at bytes (network_at bytes))

-- a number that both IP headers have, in IPv4 and in IPv6: 0 where there is neither
abbrev pub in_either : List ℕ → ℕ → ℕ → ℕ
in_either bytes four six = if has_ipv4 bytes then four else where_so (has_ipv6 bytes) six

-- RFC 791, section 3.1: the protocol is byte 9 of the header; RFC 8200, section 3: the next header is byte 6.
-- Extension headers are not walked: this project's own rule.
abbrev pub protocol_of : List ℕ → ℕ
protocol_of bytes =
    in_either bytes (slice_index bytes (network_at bytes + 9)) (slice_index bytes (network_at bytes + 6))

-- RFC 791, section 3.1: bytes 6 and 7 are three flags and the fragment's offset in 13 bits; the flag above
-- the offset says that more fragments follow. In a packet that is no fragment it is 0, and the offset too.
abbrev pub is_fragment_at : List ℕ → ℕ → Bool
is_fragment_at bytes at = not (two_at bytes (at + 6) % 0x4000 == 0)

-- where the transport header starts: behind the words of an IPv4 header, or the 40 bytes of an IPv6 header
abbrev pub transport_at : List ℕ → ℕ
transport_at bytes = network_at bytes + (if has_ipv4 bytes then 4 * header_words bytes (network_at bytes)
    else 40)

-- the packet is an IPv4 fragment. No transport header is looked for in one: this project's own rule.
abbrev pub is_fragment : List ℕ → Bool
is_fragment bytes = has_ipv4 bytes && is_fragment_at bytes (network_at bytes)

-- RFC 9293, section 3.1 (protocol 6, TCP) and RFC 768 (protocol 17, UDP): the header starts with two ports,
-- of two bytes each
abbrev pub has_ports_at : List ℕ → ℕ → ℕ → Bool
has_ports_at bytes protocol at = (protocol == 6 || protocol == 17) && nat_le (at + 4) (length bytes)

-- RFC 9293, section 3.1: TCP's flags are in bytes 12 and 13
abbrev pub has_flags_at : List ℕ → ℕ → ℕ → Bool
has_flags_at bytes protocol at = has_ports_at bytes protocol at
    && (protocol == 6 && nat_le (at + 14) (length bytes))

-- the ports are in the frame
abbrev pub has_ports : List ℕ → Bool
has_ports bytes = not (is_fragment bytes) && has_ports_at bytes (protocol_of bytes) (transport_at bytes)

-- TCP's flags are in the frame
abbrev pub has_flags : List ℕ → Bool
has_flags bytes = not (is_fragment bytes) && has_flags_at bytes (protocol_of bytes) (transport_at bytes)

-- RFC 791, section 3.1: the destination address is bytes 16 to 19 of the header; 0 where there is no IPv4
-- header
unfoldable pub dst_ip_of : List ℕ → ℕ
dst_ip_of bytes = if has_ipv4 bytes then four_at bytes (network_at bytes + 16) else 0
