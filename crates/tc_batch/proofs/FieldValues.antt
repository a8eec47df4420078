-- The values and masks that words give fit their fields.
use Rattle.std.proofs.Common.{◌≡◌, ℕ, ◌+◌, ◌-◌, ◌⊎◌, inl, inr, ◌<◌, ◌^◌, List, Option, Some, None, refl, sym, ap, subst, arith}
use Rattle.std.proofs.lemmas.Nat.{pow_pos}
use Rattle.flow_fields.specs.Table as table
use Rattle.flow_fields.specs.Table.{field_at}
use Rattle.tc_words.specs.Addresses.{prefix_mask}
use Rattle.tc_words.specs.Numbers.{number_of}
use Rattle.line_words.specs.Forms.{ether_type_of, ip_protocol_of}
use Rattle.line_words.proofs.Ranges.{ether_type_range, ip_protocol_range, masked_hex_range, masked_octet_range}
use Rattle.line_words.proofs.AddressRanges.{mac_range, ipv4_range}
use Rattle.line_words.proofs.Spelled.{number_at_most}
use Rattle.tc_batch.specs.declared.field_name.FieldName.{FieldName}
use Rattle.tc_batch.specs.declared.field_name.FieldName.TheVariants as names
use Rattle.tc_batch.specs.FieldNames.{field_number, field_value, whole}

abbrev pub width_of : FieldName → ℕ
width_of name = (field_at (field_number name)).width

-- a value and a mask of so many bits
abbrev pub Fit : ℕ → ℕ → ℕ → Type 0
Fit width value mask = (value < 2 ^ width) × (mask < 2 ^ width)

-- the parts of equal pairs
abbrev first_of : Option (ℕ × ℕ) → ℕ
first_of None = 0
first_of (Some pair) = pair.0

abbrev second_of : Option (ℕ × ℕ) → ℕ
second_of None = 0
second_of (Some pair) = pair.1

whole_fits : (width : ℕ) (o : Option ℕ) (value mask : ℕ) → ((n : ℕ) → o ≡ Some n → n < 2 ^ width) → 0 < 2 ^ width → whole width o ≡ Some (value, mask) → Fit width value mask
whole_fits width None value mask below some is = absurd (cc is)
whole_fits width (Some n) value mask below some is =
    let v : n ≡ value = ap first_of is in
    let m : 2 ^ width - 1 ≡ mask = ap second_of is in
    (subst (λ (x : ℕ). x < 2 ^ width) v (below n refl), subst (λ (x : ℕ). x < 2 ^ width) m (omega arith))

-- the mask of an IPv4 prefix has 32 bits
prefix_fits : (n mask : ℕ) → mask ≡ prefix_mask n → mask < 2 ^ 32
prefix_fits n mask is = let some = pow_pos (32 - n) in omega (arith, some)

pub value_fits : (name : FieldName) (word : List ℕ) (value mask : ℕ) → field_value name word ≡ Some (value, mask) → Fit (width_of name) value mask
unfolding table.fields
value_fits names.DstMac word value mask is = let r = mac_range word value mask is in (r.0, r.1)
value_fits names.SrcMac word value mask is = let r = mac_range word value mask is in (r.0, r.1)
value_fits names.VlanId word value mask is = whole_fits 12 (number_of word 4095) value mask (λ n h. let r = number_at_most word 4095 n h in omega arith) (omega arith) is
value_fits names.VlanPrio word value mask is = whole_fits 3 (number_of word 7) value mask (λ n h. let r = number_at_most word 7 n h in omega arith) (omega arith) is
value_fits names.VlanEthtype word value mask is = whole_fits 16 (ether_type_of word) value mask (λ n h. ether_type_range word n h) (omega arith) is
value_fits names.IpProto word value mask is = whole_fits 8 (ip_protocol_of word) value mask (λ n h. ip_protocol_range word n h) (omega arith) is
value_fits names.SrcIp word value mask is = let r = ipv4_range word value mask is in (r.0, prefix_fits r.2.0 mask r.2.2)
value_fits names.DstIp word value mask is = let r = ipv4_range word value mask is in (r.0, prefix_fits r.2.0 mask r.2.2)
value_fits names.SrcPort word value mask is = whole_fits 16 (number_of word 65535) value mask (λ n h. let r = number_at_most word 65535 n h in omega arith) (omega arith) is
value_fits names.DstPort word value mask is = whole_fits 16 (number_of word 65535) value mask (λ n h. let r = number_at_most word 65535 n h in omega arith) (omega arith) is
value_fits names.TcpFlags word value mask is = let r = masked_hex_range word 3 value mask is in (omega arith, omega arith)
value_fits names.CvlanId word value mask is = whole_fits 12 (number_of word 4095) value mask (λ n h. let r = number_at_most word 4095 n h in omega arith) (omega arith) is
value_fits names.CvlanPrio word value mask is = whole_fits 3 (number_of word 7) value mask (λ n h. let r = number_at_most word 7 n h in omega arith) (omega arith) is
value_fits names.CvlanEthtype word value mask is = whole_fits 16 (ether_type_of word) value mask (λ n h. ether_type_range word n h) (omega arith) is
value_fits names.IpTos word value mask is = let r = masked_hex_range word 2 value mask is in (omega arith, omega arith)
value_fits names.IpTtl word value mask is = let r = masked_octet_range word value mask is in (omega arith, omega arith)

-- the halves of an IPv6 address have 64 bits each
pub half_widths : (high : ℕ) → (high ≡ 16) ⊎ (high ≡ 18) → ((field_at high).width ≡ 64) × ((field_at (high + 1)).width ≡ 64)
unfolding table.fields
half_widths high (inl is) = subst (λ (i : ℕ). ((field_at i).width ≡ 64) × ((field_at (i + 1)).width ≡ 64)) (sym is) (refl, refl)
half_widths high (inr is) = subst (λ (i : ℕ). ((field_at i).width ≡ 64) × ((field_at (i + 1)).width ≡ 64)) (sym is) (refl, refl)
