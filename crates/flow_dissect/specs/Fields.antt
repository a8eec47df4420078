-- The fields of a frame: each by its own condition and its own place, and 0 where the condition does not
-- hold.
use Rattle.std.specs.Prelude.{ℕ, ◌+◌, ◌/◌, ◌%◌, List, [], ◌∷◌, slice_index}
use Rattle.frame_edit.specs.Tags.{two_at, has_ethernet}
use Rattle.flow_dissect.specs.Headers.{four_at, six_at, eight_at, where_so, in_either, has_first_tag}
use Rattle.flow_dissect.specs.Headers.{has_second_tag, has_ipv4, has_ipv6, has_ports, has_flags, network_at}
use Rattle.flow_dissect.specs.Headers.{transport_at, protocol_of}

-- The values of a frame's fields, in the order of the table of fields. IEEE 802.3, clause 3.2: the
-- destination, and then the source. IEEE 802.1Q, clause 9: in a tag's control information the high three bits
-- are the priority and the low twelve the VLAN's number. RFC 791, section 3.1: type of service in byte 1,
-- time to live in byte 8, protocol in byte 9, source from byte 12, destination from byte 16. RFC 8200,
-- section 3: the traffic class is the eight bits behind the four of the version, next header in byte 6, hop
-- limit in byte 7, source from byte 8, destination from byte 24. RFC 9293, section 3.1, and RFC 768: source
-- port, destination port; in TCP the low twelve bits of bytes 12 and 13 are the flags and the reserved bits
-- before them.
unfoldable pub frame_values : List ℕ → List ℕ
frame_values bytes =
    where_so (has_ethernet bytes) (six_at bytes 0)  -- dst_mac
    ∷ where_so (has_ethernet bytes) (six_at bytes 6)  -- src_mac
    ∷ where_so (has_first_tag bytes) (two_at bytes 14 % 4096)  -- vlan_id
    ∷ where_so (has_first_tag bytes) (two_at bytes 14 / 8192)  -- vlan_prio
    ∷ where_so (has_first_tag bytes) (two_at bytes 16)  -- vlan_ethtype
    ∷ protocol_of bytes  -- ip_proto
    ∷ where_so (has_ipv4 bytes) (four_at bytes (network_at bytes + 12))  -- src_ip
    ∷ where_so (has_ipv4 bytes) (four_at bytes (network_at bytes + 16))  -- dst_ip
    ∷ where_so (has_ports bytes) (two_at bytes (transport_at bytes))  -- src_port
    ∷ where_so (has_ports bytes) (two_at bytes (transport_at bytes + 2))  -- dst_port
    ∷ where_so (has_flags bytes) (two_at bytes (transport_at bytes + 12) % 4096)  -- tcp_flags
    ∷ where_so (has_second_tag bytes) (two_at bytes 18 % 4096)  -- cvlan_id
    ∷ where_so (has_second_tag bytes) (two_at bytes 18 / 8192)  -- cvlan_prio
    ∷ where_so (has_second_tag bytes) (two_at bytes 20)  -- cvlan_ethtype
    ∷ in_either bytes (slice_index bytes (network_at bytes + 1))
    (two_at bytes (network_at bytes) / 16 % 256)  -- ip_tos
    ∷ in_either bytes (slice_index bytes (network_at bytes + 8))
    (slice_index bytes (network_at bytes + 7))  -- ip_ttl
    ∷ where_so (has_ipv6 bytes) (eight_at bytes (network_at bytes + 8))  -- src_ip6_high
    ∷ where_so (has_ipv6 bytes) (eight_at bytes (network_at bytes + 16))  -- src_ip6_low
    ∷ where_so (has_ipv6 bytes) (eight_at bytes (network_at bytes + 24))  -- dst_ip6_high
    ∷ where_so (has_ipv6 bytes) (eight_at bytes (network_at bytes + 32))  -- dst_ip6_low
    ∷ []
