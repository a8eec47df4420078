-- What each header puts into a list of values. Only the contracts of private functions speak of these words:
-- `key_of` promises the list of `Fields` and nothing of these.
use Rattle.std.specs.Prelude.{ℕ, ◌+◌, ◌*◌, ◌/◌, ◌%◌, ◌==◌, nat_le, if◌then◌else◌, List, slice_index}
use Rattle.std.specs.Prelude.{slice_set}
use Rattle.frame_edit.specs.Tags.{two_at}
use Rattle.flow_dissect.specs.Headers.{four_at, six_at, eight_at, has_ipv4, has_ipv6, network_at}
use Rattle.flow_dissect.specs.Headers.{header_words, is_fragment_at, has_ports_at, has_flags_at}

-- the two addresses
abbrev pub with_addresses : List ℕ → List ℕ → List ℕ
with_addresses bytes values = slice_set (slice_set values 0 (six_at bytes 0)) 1 (six_at bytes 6)

-- a tag's number, priority and EtherType behind it, from that field on
abbrev pub with_tag : ℕ → ℕ → ℕ → List ℕ → List ℕ
with_tag field control inner values =
    slice_set (slice_set (slice_set values field (control % 4096)) (field + 1) (control / 8192))
    (field + 2) inner

abbrev pub with_first_tag : List ℕ → List ℕ → List ℕ
with_first_tag bytes values = with_tag 2 (two_at bytes 14) (two_at bytes 16) values

abbrev pub with_second_tag : List ℕ → List ℕ → List ℕ
with_second_tag bytes values = with_tag 11 (two_at bytes 18) (two_at bytes 20) values

-- the tags before a network header that starts there
abbrev pub with_tags : List ℕ → ℕ → List ℕ → List ℕ
with_tags bytes start values =
    if nat_le 18 start then
    (if start == 22 then with_second_tag bytes (with_first_tag bytes values) else with_first_tag bytes values)
    else values

-- an IPv4 header
abbrev pub with_ipv4 : List ℕ → ℕ → List ℕ → List ℕ
with_ipv4 bytes at values =
    slice_set (slice_set (slice_set (slice_set (slice_set values
    14 (slice_index bytes (at + 1)))
    15 (slice_index bytes (at + 8)))
    5 (slice_index bytes (at + 9)))
    6 (four_at bytes (at + 12)))
    7 (four_at bytes (at + 16))

-- the source address of an IPv6 header, and the destination
abbrev pub with_ipv6_addresses : List ℕ → ℕ → List ℕ → List ℕ
with_ipv6_addresses bytes at values =
    slice_set (slice_set (slice_set (slice_set values
    16 (eight_at bytes (at + 8)))
    17 (eight_at bytes (at + 16)))
    18 (eight_at bytes (at + 24)))
    19 (eight_at bytes (at + 32))

-- an IPv6 header
abbrev pub with_ipv6 : List ℕ → ℕ → List ℕ → List ℕ
with_ipv6 bytes at values =
    with_ipv6_addresses bytes at (slice_set (slice_set (slice_set values
    14 (two_at bytes at / 16 % 256))
    5 (slice_index bytes (at + 6)))
    15 (slice_index bytes (at + 7)))

-- the ports
abbrev pub with_ports : List ℕ → ℕ → List ℕ → List ℕ
with_ports bytes at values = slice_set (slice_set values 8 (two_at bytes at)) 9 (two_at bytes (at + 2))

-- a transport header
abbrev pub with_transport : List ℕ → ℕ → ℕ → List ℕ → List ℕ
with_transport bytes protocol at values =
    if has_ports_at bytes protocol at then
    (if has_flags_at bytes protocol at
    then slice_set (with_ports bytes at values) 10 (two_at bytes (at + 12) % 4096)
    else with_ports bytes at values)
    else values

-- an IPv4 header and what it carries
abbrev pub with_ipv4_packet : List ℕ → ℕ → List ℕ → List ℕ
with_ipv4_packet bytes at values =
    if is_fragment_at bytes at then with_ipv4 bytes at values
    else with_transport bytes (slice_index bytes (at + 9)) (at + 4 * header_words bytes at)
    (with_ipv4 bytes at values)

-- an IPv6 header and what it carries
abbrev pub with_ipv6_packet : List ℕ → ℕ → List ℕ → List ℕ
with_ipv6_packet bytes at values =
    with_transport bytes (slice_index bytes (at + 6)) (at + 40) (with_ipv6 bytes at values)

-- the IP packet of a frame
abbrev pub with_packet : List ℕ → List ℕ → List ℕ
with_packet bytes values =
    if has_ipv4 bytes then with_ipv4_packet bytes (network_at bytes) values
    else if has_ipv6 bytes then with_ipv6_packet bytes (network_at bytes) values
    else values
