-- What a word gives a field is in the ranges of the field.
use Rattle.std.proofs.Common.{◌≡◌, ◌∙◌, ℕ, ◌+◌, ◌-◌, ◌*◌, ◌/◌, ◌%◌, ◌^◌, ◌<◌, ◌≤◌, List, Option, Some, refl, sym, ap, arith, inl}
use Rattle.std.specs.Prelude.{bit_and}
use Rattle.std.proofs.Math.Nat.{mod-eq_of_lt}
use Rattle.std.proofs.lemmas.Nat.{and_mask, and_shr, and_mod, shr_high, mod_low, pow_pos}
use Rattle.tc_words.specs.Numbers.{number_of}
use Rattle.tc_words.specs.Ipv6Addresses.{ipv6_of, ipv6_mask}
use Rattle.tc_words.specs.declared.ipv6_addresses.Ipv6Word.{Ipv6Word}
use Rattle.line_words.specs.Forms.{ether_type_of, ip_protocol_of}
use Rattle.line_words.proofs.Spelled.{number_at_most}
use Rattle.line_words.proofs.Ranges.{ether_type_range, ip_protocol_range, masked_hex_range, masked_octet_range}
use Rattle.line_words.proofs.AddressRanges.{mac_range, ipv4_range, ipv6_range}
use Rattle.flow_fields.specs.Table.{fields, field_at}
use Rattle.filter_state.specs.Fields.{IsPrefix, joined}
use Rattle.tc_batch.specs.declared.field_name.FieldName.{FieldName}
use Rattle.tc_batch.specs.declared.field_name.FieldName.TheVariants as names
use Rattle.tc_batch.specs.FieldNames.{field_number, whole, field_value}
use Rattle.tc_batch.proofs.FieldWidths.{width_of}
use Rattle.line_range_laws.proofs.Rules.{mapped}
use Rattle.line_range_laws.proofs.FieldLists.{IsMaskAt, IsUnder}

pub half_widths : (64 ≡ (field_at 16).width) × (64 ≡ (field_at 17).width) × (64 ≡ (field_at 18).width) × (64 ≡ (field_at 19).width)
unfolding fields
half_widths = (refl, refl, refl, refl)

pub number_below : (name : FieldName) → field_number name < 16
number_below names.DstMac = omega arith
number_below names.SrcMac = omega arith
number_below names.VlanId = omega arith
number_below names.VlanPrio = omega arith
number_below names.VlanEthtype = omega arith
number_below names.IpProto = omega arith
number_below names.SrcIp = omega arith
number_below names.DstIp = omega arith
number_below names.SrcPort = omega arith
number_below names.DstPort = omega arith
number_below names.TcpFlags = omega arith
number_below names.CvlanId = omega arith
number_below names.CvlanPrio = omega arith
number_below names.CvlanEthtype = omega arith
number_below names.IpTos = omega arith
number_below names.IpTtl = omega arith

-- a value and a mask of a field
pub record IsInField (name : FieldName) (v m : ℕ) : Type 0 where
  pub value : v < 2 ^ width_of name
  pub mask : m < 2 ^ width_of name
  pub under : IsUnder v m
  pub kind : IsMaskAt (field_number name) m

-- a value that counts in all bits
all_bits : (width value : ℕ) → value < 2 ^ width → (value < 2 ^ width) × (2 ^ width - 1 < 2 ^ width) × IsUnder value (2 ^ width - 1)
all_bits width value below = (below, omega (arith, pow_pos width), and_mask value width ∙ mod-eq_of_lt below)

whole_range : (width : ℕ) (value : Option ℕ) (v m : ℕ) → ((n : ℕ) → value ≡ Some n → n < 2 ^ width) → whole width value ≡ Some (v, m) → (v < 2 ^ width) × (m < 2 ^ width) × IsUnder v m × (m ≡ 2 ^ width - 1)
whole_range width value v m below e =
    mapped (λ n. (n, 2 ^ width - 1)) value (λ (a : ℕ × ℕ). (a.0 < 2 ^ width) × (a.1 < 2 ^ width) × IsUnder a.0 a.1 × (a.1 ≡ 2 ^ width - 1))
    (λ n is. let all = all_bits width n (below n is) in (all.0, all.1, all.2, refl)) (v, m) e

number_below_power : (word : List ℕ) (most top n : ℕ) → most < top → number_of word most ≡ Some n → n < top
number_below_power word most top n small e = omega (arith, number_at_most word most n e)

short_mask : (length mask : ℕ) → mask ≡ 2 ^ 32 - 2 ^ (32 - length) → mask < 2 ^ 32
short_mask length mask is = omega (arith, is, pow_pos (32 - length))

pub value_range : (name : FieldName) (word : List ℕ) (v m : ℕ) → field_value name word ≡ Some (v, m) → IsInField name v m
value_range names.DstMac word v m e = let r = mac_range word v m e in record { value = r.0; mask = r.1; under = r.2; kind = tt }
value_range names.SrcMac word v m e = let r = mac_range word v m e in record { value = r.0; mask = r.1; under = r.2; kind = tt }
value_range names.VlanId word v m e = let r = whole_range 12 (number_of word 4095) v m (λ n is. number_below_power word 4095 (2 ^ 12) n (omega arith) is) e in record { value = r.0; mask = r.1; under = r.2; kind = inl r.3 }
value_range names.VlanPrio word v m e = let r = whole_range 3 (number_of word 7) v m (λ n is. number_below_power word 7 (2 ^ 3) n (omega arith) is) e in record { value = r.0; mask = r.1; under = r.2; kind = inl r.3 }
value_range names.VlanEthtype word v m e = let r = whole_range 16 (ether_type_of word) v m (λ n is. ether_type_range word n is) e in record { value = r.0; mask = r.1; under = r.2; kind = inl r.3 }
value_range names.IpProto word v m e = let r = whole_range 8 (ip_protocol_of word) v m (λ n is. ip_protocol_range word n is) e in record { value = r.0; mask = r.1; under = r.2; kind = inl r.3 }
value_range names.SrcIp word v m e = let r = ipv4_range word v m e in record { value = r.0; mask = short_mask r.2.0 m r.2.2; under = r.1; kind = r.2 }
value_range names.DstIp word v m e = let r = ipv4_range word v m e in record { value = r.0; mask = short_mask r.2.0 m r.2.2; under = r.1; kind = r.2 }
value_range names.SrcPort word v m e = let r = whole_range 16 (number_of word 65535) v m (λ n is. number_below_power word 65535 (2 ^ 16) n (omega arith) is) e in record { value = r.0; mask = r.1; under = r.2; kind = inl r.3 }
value_range names.DstPort word v m e = let r = whole_range 16 (number_of word 65535) v m (λ n is. number_below_power word 65535 (2 ^ 16) n (omega arith) is) e in record { value = r.0; mask = r.1; under = r.2; kind = inl r.3 }
value_range names.TcpFlags word v m e = let r = masked_hex_range word 3 v m e in record { value = r.0; mask = r.1; under = r.2; kind = tt }
value_range names.CvlanId word v m e = let r = whole_range 12 (number_of word 4095) v m (λ n is. number_below_power word 4095 (2 ^ 12) n (omega arith) is) e in record { value = r.0; mask = r.1; under = r.2; kind = inl r.3 }
value_range names.CvlanPrio word v m e = let r = whole_range 3 (number_of word 7) v m (λ n is. number_below_power word 7 (2 ^ 3) n (omega arith) is) e in record { value = r.0; mask = r.1; under = r.2; kind = inl r.3 }
value_range names.CvlanEthtype word v m e = let r = whole_range 16 (ether_type_of word) v m (λ n is. ether_type_range word n is) e in record { value = r.0; mask = r.1; under = r.2; kind = inl r.3 }
value_range names.IpTos word v m e = let r = masked_hex_range word 2 v m e in record { value = r.0; mask = r.1; under = r.2; kind = tt }
value_range names.IpTtl word v m e = let r = masked_octet_range word v m e in record { value = r.0; mask = r.1; under = r.2; kind = tt }

-- the halves of an IPv6 prefix
upper_under : (high low mask : ℕ) → low < 2 ^ 64 → IsUnder (high * 2 ^ 64 + low) mask → IsUnder high (mask / 2 ^ 64)
upper_under high low mask below is =
    let half : (high * 2 ^ 64 + low) / 2 ^ 64 ≡ high = shr_high high 64 low below in
    ap (λ n. bit_and n (mask / 2 ^ 64)) (sym half) ∙ sym (and_shr (high * 2 ^ 64 + low) mask 64) ∙ ap (λ n. n / 2 ^ 64) is ∙ half

lower_under : (high low mask : ℕ) → low < 2 ^ 64 → IsUnder (high * 2 ^ 64 + low) mask → IsUnder low (mask % 2 ^ 64)
lower_under high low mask below is =
    let half : (high * 2 ^ 64 + low) % 2 ^ 64 ≡ low = mod_low high 64 low below in
    ap (λ n. bit_and n (mask % 2 ^ 64)) (sym half) ∙ sym (and_mod (high * 2 ^ 64 + low) mask 64) ∙ ap (λ n. n % 2 ^ 64) is ∙ half

pub record IsHalved (high low upper lower : ℕ) : Type 0 where
  pub high_value : high < 2 ^ 64
  pub low_value : low < 2 ^ 64
  pub high_mask : upper < 2 ^ 64
  pub low_mask : lower < 2 ^ 64
  pub high_under : IsUnder high upper
  pub low_under : IsUnder low lower
  pub prefix : IsPrefix 128 (joined upper lower)

halves : (high low mask length : ℕ) → length ≤ 128 → high < 2 ^ 64 → low < 2 ^ 64 → mask ≡ ipv6_mask length → IsUnder (high * 2 ^ 64 + low) mask → IsHalved high low (mask / 2 ^ 64) (mask % 2 ^ 64)
halves high low mask length most above below is under =
    let whole : mask < 2 ^ 128 = omega (arith, is, pow_pos (128 - length)) in
    let both : mask / 2 ^ 64 * 2 ^ 64 + mask % 2 ^ 64 ≡ mask = omega arith in record {
      high_value = above;
      low_value = below;
      high_mask = omega (arith, whole);
      low_mask = omega arith;
      high_under = upper_under high low mask below under;
      low_under = lower_under high low mask below under;
      prefix = (length, most, both ∙ is);
    }

pub halves_range : (word : List ℕ) (w : Ipv6Word) → ipv6_of word ≡ Some w → IsHalved w.high w.low (ipv6_mask w.length / 2 ^ 64) (ipv6_mask w.length % 2 ^ 64)
halves_range word w e = let r = ipv6_range word w e in halves w.high w.low (ipv6_mask w.length) w.length r.0 r.1 r.2 refl r.3
