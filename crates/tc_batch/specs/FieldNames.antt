-- The fields that a filter line can name, and what their words spell (tc-flower(8)).
use Rattle.std.specs.Prelude.{ℕ, ◌-◌, ◌^◌, List, codes, Option, Some, None, if◌then◌else◌}
use Rattle.std.specs.Option.{option_map}
use Rattle.std.specs.Str.{bytes_eq}
use Rattle.tc_words.specs.Addresses.{ipv4_of}
use Rattle.tc_words.specs.MacAddresses.{mac_of}
use Rattle.tc_words.specs.Numbers.{number_of}
use Rattle.line_words.specs.Forms.{ether_type_of, ip_protocol_of, masked_hex_of, masked_octet_of}
use Rattle.tc_batch.specs.declared.field_name.FieldName.{FieldName}
use Rattle.tc_batch.specs.declared.field_name.FieldName.TheVariants as names

-- the names of the table of fields, but those of the halves of IPv6 addresses
abbrev pub field_name : List ℕ → Option FieldName
field_name word =
    if bytes_eq word (codes "dst_mac") then Some names.DstMac
    else if bytes_eq word (codes "src_mac") then Some names.SrcMac
    else if bytes_eq word (codes "vlan_id") then Some names.VlanId
    else if bytes_eq word (codes "vlan_prio") then Some names.VlanPrio
    else if bytes_eq word (codes "vlan_ethtype") then Some names.VlanEthtype
    else if bytes_eq word (codes "ip_proto") then Some names.IpProto
    else if bytes_eq word (codes "src_ip") then Some names.SrcIp
    else if bytes_eq word (codes "dst_ip") then Some names.DstIp
    else if bytes_eq word (codes "src_port") then Some names.SrcPort
    else if bytes_eq word (codes "dst_port") then Some names.DstPort
    else if bytes_eq word (codes "tcp_flags") then Some names.TcpFlags
    else if bytes_eq word (codes "cvlan_id") then Some names.CvlanId
    else if bytes_eq word (codes "cvlan_prio") then Some names.CvlanPrio
    else if bytes_eq word (codes "cvlan_ethtype") then Some names.CvlanEthtype
    else if bytes_eq word (codes "ip_tos") then Some names.IpTos
    else if bytes_eq word (codes "ip_ttl") then Some names.IpTtl
    else None

-- the place of a field in the table of fields
abbrev pub field_number : FieldName → ℕ
field_number names.DstMac = 0
field_number names.SrcMac = 1
field_number names.VlanId = 2
field_number names.VlanPrio = 3
field_number names.VlanEthtype = 4
field_number names.IpProto = 5
field_number names.SrcIp = 6
field_number names.DstIp = 7
field_number names.SrcPort = 8
field_number names.DstPort = 9
field_number names.TcpFlags = 10
field_number names.CvlanId = 11
field_number names.CvlanPrio = 12
field_number names.CvlanEthtype = 13
field_number names.IpTos = 14
field_number names.IpTtl = 15

-- a value that counts in all bits of a field of that width
abbrev pub whole : ℕ → Option ℕ → Option (ℕ × ℕ)
whole width value = option_map (λ it. (it, 2 ^ width - 1)) value

-- the value under its mask, and the mask, that a word gives a field
abbrev pub field_value : FieldName → List ℕ → Option (ℕ × ℕ)
field_value names.DstMac word = mac_of word
field_value names.SrcMac word = mac_of word
field_value names.VlanId word = whole 12 (number_of word 4095)
field_value names.VlanPrio word = whole 3 (number_of word 7)
field_value names.VlanEthtype word = whole 16 (ether_type_of word)
field_value names.IpProto word = whole 8 (ip_protocol_of word)
field_value names.SrcIp word = ipv4_of word
field_value names.DstIp word = ipv4_of word
field_value names.SrcPort word = whole 16 (number_of word 65535)
field_value names.DstPort word = whole 16 (number_of word 65535)
field_value names.TcpFlags word = masked_hex_of word 3
field_value names.CvlanId word = whole 12 (number_of word 4095)
field_value names.CvlanPrio word = whole 3 (number_of word 7)
field_value names.CvlanEthtype word = whole 16 (ether_type_of word)
field_value names.IpTos word = masked_hex_of word 2
field_value names.IpTtl word = masked_octet_of word
