-- The words that the fields of a filter are printed as (tc-flower(8)), by its key and its mask.
use Rattle.std.specs.Prelude.{ℕ, ◌+◌, ◌&&◌, ◌==◌, List, [], ◌∷◌, ◌++◌, codes, if◌then◌else◌}
use Rattle.std.specs.Fmt.{decimal}
use Rattle.flow_fields.specs.Table.{field_at}
use Rattle.flow_fields.specs.Values.{value_in}
use Rattle.line_texts.specs.Texts.{ether_type_text, ip_protocol_text, masked_hex_text, masked_octet_text}
use Rattle.line_texts.specs.Texts.{mac_text, ipv4_text, ipv6_text, prefix_length_of, ipv6_length_of}
use Rattle.tc_batch.specs.declared.field_name.FieldName.{FieldName}
use Rattle.tc_batch.specs.declared.field_name.FieldName.TheVariants as names
use Rattle.tc_batch.specs.FieldNames.{field_number}

-- the name of a field
abbrev pub name_text : FieldName → List ℕ
name_text names.DstMac = codes "dst_mac"
name_text names.SrcMac = codes "src_mac"
name_text names.VlanId = codes "vlan_id"
name_text names.VlanPrio = codes "vlan_prio"
name_text names.VlanEthtype = codes "vlan_ethtype"
name_text names.IpProto = codes "ip_proto"
name_text names.SrcIp = codes "src_ip"
name_text names.DstIp = codes "dst_ip"
name_text names.SrcPort = codes "src_port"
name_text names.DstPort = codes "dst_port"
name_text names.TcpFlags = codes "tcp_flags"
name_text names.CvlanId = codes "cvlan_id"
name_text names.CvlanPrio = codes "cvlan_prio"
name_text names.CvlanEthtype = codes "cvlan_ethtype"
name_text names.IpTos = codes "ip_tos"
name_text names.IpTtl = codes "ip_ttl"

-- the value of a field under its mask; that of an address is one of IPv4
abbrev pub value_text : FieldName → ℕ → ℕ → List ℕ
value_text names.DstMac value mask = mac_text value mask
value_text names.SrcMac value mask = mac_text value mask
value_text names.VlanId value mask = decimal value
value_text names.VlanPrio value mask = decimal value
value_text names.VlanEthtype value mask = ether_type_text value
value_text names.IpProto value mask = ip_protocol_text value
value_text names.SrcIp value mask = ipv4_text value (prefix_length_of mask)
value_text names.DstIp value mask = ipv4_text value (prefix_length_of mask)
value_text names.SrcPort value mask = decimal value
value_text names.DstPort value mask = decimal value
value_text names.TcpFlags value mask = masked_hex_text value mask
value_text names.CvlanId value mask = decimal value
value_text names.CvlanPrio value mask = decimal value
value_text names.CvlanEthtype value mask = ether_type_text value
value_text names.IpTos value mask = masked_hex_text value mask
value_text names.IpTtl value mask = masked_octet_text value mask

-- the value of a field by its number
abbrev pub value_by_number : List ℕ → ℕ → ℕ
value_by_number words field = value_in (field_at field) words

-- a field by its number: its name and the text of its value, where its mask isn't 0
abbrev pub words_by_number : List ℕ → List ℕ → ℕ → List ℕ → (ℕ → ℕ → List ℕ) → List (List ℕ)
words_by_number key mask field name text =
    if value_by_number mask field == 0 then []
    else name ∷ text (value_by_number key field) (value_by_number mask field) ∷ []

-- a field by its name
abbrev pub field_words : List ℕ → List ℕ → FieldName → List (List ℕ)
field_words key mask name = words_by_number key mask (field_number name) (name_text name) (value_text name)

-- an IPv6 prefix by the number of its high half
abbrev pub prefix_words : List ℕ → List ℕ → ℕ → List ℕ → List (List ℕ)
prefix_words key mask high name =
    if value_by_number mask high == 0 && value_by_number mask (high + 1) == 0 then []
    else name ∷ ipv6_text (value_by_number key high) (value_by_number key (high + 1))
    (ipv6_length_of (value_by_number mask high) (value_by_number mask (high + 1))) ∷ []

-- the fields of some names, in order
abbrev pub named_words : List ℕ → List ℕ → List FieldName → List (List ℕ)
named_words key mask [] = []
named_words key mask (name ∷ more) = field_words key mask name ++ named_words key mask more

-- the fields with one value each, in the order of their table
abbrev pub all_names : List FieldName
all_names =
    names.DstMac ∷ names.SrcMac ∷ names.VlanId ∷ names.VlanPrio ∷ names.VlanEthtype
    ∷ names.IpProto ∷ names.SrcIp ∷ names.DstIp ∷ names.SrcPort ∷ names.DstPort ∷ names.TcpFlags
    ∷ names.CvlanId ∷ names.CvlanPrio ∷ names.CvlanEthtype ∷ names.IpTos ∷ names.IpTtl ∷ []

-- the two IPv6 addresses have the names of those of IPv4
abbrev pub prefixes_words : List ℕ → List ℕ → List (List ℕ)
prefixes_words key mask = prefix_words key mask 16 (codes "src_ip")
    ++ prefix_words key mask 18 (codes "dst_ip")

-- all fields: those with one value each, and then the IPv6 addresses
abbrev pub fields_words : List ℕ → List ℕ → List (List ℕ)
fields_words key mask = named_words key mask all_names ++ prefixes_words key mask
