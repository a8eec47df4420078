-- The printed value of each field is read back.
use Rattle.std.proofs.Common.{◌≡◌, ◌≢◌, ◌∙◌, ℕ, suc, ◌+◌, ◌^◌, ◌<◌, ◌⊎◌, Bool, true, false, cond, List, [], ◌∷◌, length, get_or, bit_and, lit<, Option, Some, None, refl, sym, ap, ap₂, subst, inl, inr, arith}
use Rattle.std.specs.Prelude.{◌||◌, ◌==◌, not, nat_lt, is_some}
use Rattle.std.specs.List.{list_any, prefix_len}
use Rattle.std.specs.Int.Bits.{and_zero_r}
use Rattle.std.proofs.lemmas.Bool.Decides.{nat_tests}
use Rattle.flow_fields.specs.Table.{fields, field_at}
use Rattle.flow_fields.specs.Values.{values_of}
use Rattle.flow_fields.proofs.Puts.{value_at}
use Rattle.tc_words.specs.Addresses.{ipv4_of}
use Rattle.line_texts.specs.Texts.{ipv4_text, ipv6_text, prefix_length_of}
use Rattle.line_texts.proofs.Decimals.{number-read}
use Rattle.line_texts.proofs.EtherTypes.{ether_type-read}
use Rattle.line_texts.proofs.IpProtocols.{ip_protocol-read}
use Rattle.line_texts.proofs.Ipv4Texts.{ipv4-read, ipv4-no_colon}
use Rattle.line_texts.proofs.Ipv6Texts.{ipv6-colon}
use Rattle.line_texts.proofs.Lengths.{length-of_prefix}
use Rattle.line_texts.proofs.MacTexts.{mac-read}
use Rattle.line_texts.proofs.Masked.{masked_hex-read, masked_octet-read}
use Rattle.filter_state.specs.Fields.{IsAllOrNone, IsPrefix, AreFields}
use Rattle.tc_batch.specs.declared.field_name.FieldName.{FieldName}
use Rattle.tc_batch.specs.declared.field_name.FieldName.TheVariants as names
use Rattle.tc_batch.specs.FieldNames.{field_number, whole, field_value}
use Rattle.tc_batch.specs.Fields.{has_colon}
use Rattle.tc_batch.proofs.FieldWidths.{width_of, width_is}
use Rattle.tc_print.specs.FieldWords.{value_text, value_by_number}
use Rattle.tc_print.proofs.Copies.{fits}

pub named_fits : (words : List ℕ) (name : FieldName) → value_by_number words (field_number name) < 2 ^ width_of name
named_fits words name = subst (λ w. value_by_number words (field_number name) < 2 ^ w) (sym (width_is name)) (fits words (field_number name))

-- the four halves of IPv6 addresses
half_width : (half : ℕ) → (half ≡ 16) ⊎ (half ≡ 17) ⊎ (half ≡ 18) ⊎ (half ≡ 19) → (field_at half).width ≡ 64
unfolding fields
half_width half (inl is) = ap (λ n. (field_at n).width) is
half_width half (inr (inl is)) = ap (λ n. (field_at n).width) is
half_width half (inr (inr (inl is))) = ap (λ n. (field_at n).width) is
half_width half (inr (inr (inr is))) = ap (λ n. (field_at n).width) is

pub half_fits : (words : List ℕ) (half : ℕ) → (half ≡ 16) ⊎ (half ≡ 17) ⊎ (half ≡ 18) ⊎ (half ≡ 19) → value_by_number words half < 2 ^ 64
half_fits words half which = subst (λ w. value_by_number words half < 2 ^ w) (half_width half which) (fits words half)

-- a value has no bit outside its mask
pub under_mask : (key mask : List ℕ) → AreFields (values_of key) (values_of mask) → (field : ℕ) → field < 20
    → bit_and (value_by_number key field) (value_by_number mask field) ≡ value_by_number key field
under_mask key mask are field here =
    ap₂ bit_and (sym (value_at key field 0 here)) (sym (value_at mask field 0 here)) ∙ are.under field here ∙ value_at key field 0 here

-- so under a mask of 0 it is 0
pub zero_under : (key mask : List ℕ) → AreFields (values_of key) (values_of mask) → (field : ℕ) → field < 20
    → value_by_number mask field ≡ 0 → value_by_number key field ≡ 0
zero_under key mask are field here none =
    sym (under_mask key mask are field here) ∙ ap (bit_and (value_by_number key field)) none ∙ and_zero_r (value_by_number key field)

-- a value that counts in all its bits
whole_read : (width value mask : ℕ) (read : Option ℕ) → read ≡ Some value → IsAllOrNone width mask → mask ≢ 0 → whole width read ≡ Some (value, mask)
whole_read width value mask read is (inl all) some = ap (whole width) is ∙ ap (λ (m : ℕ). Some (value, m)) (sym all)
whole_read width value mask read is (inr none) some = absurd (some none)

ipv4_read : (value mask : ℕ) → value < 2 ^ 32 → IsPrefix 32 mask → bit_and value mask ≡ value → ipv4_of (ipv4_text value (prefix_length_of mask)) ≡ Some (value, mask)
ipv4_read value mask small (length, le, is) under =
    let found : prefix_length_of mask ≡ length = ap prefix_length_of is ∙ length-of_prefix length le in
    ap (λ n. ipv4_of (ipv4_text value n)) found ∙ ipv4-read value length small le (ap (bit_and value) (sym is) ∙ under) ∙ ap (λ (m : ℕ). Some (value, m)) (sym is)

all_or_none : (width : ℕ) (mask : List ℕ) (field : ℕ) → field < 20 → IsAllOrNone width (get_or (values_of mask) field 0) → IsAllOrNone width (value_by_number mask field)
all_or_none width mask field here is = subst (IsAllOrNone width) (value_at mask field 0 here) is

pub prefix : (width : ℕ) (mask : List ℕ) (field : ℕ) → field < 20 → IsPrefix width (get_or (values_of mask) field 0) → IsPrefix width (value_by_number mask field)
prefix width mask field here is = subst (IsPrefix width) (value_at mask field 0 here) is

-- what is printed of a field is read back
pub value_read : (key mask : List ℕ) → AreFields (values_of key) (values_of mask) → (name : FieldName) → value_by_number mask (field_number name) ≢ 0
    → field_value name (value_text name (value_by_number key (field_number name)) (value_by_number mask (field_number name)))
    ≡ Some (value_by_number key (field_number name), value_by_number mask (field_number name))
value_read key mask are names.DstMac some = mac-read _ _ (named_fits key names.DstMac) (named_fits mask names.DstMac) (under_mask key mask are 0 (lit< tt))
value_read key mask are names.SrcMac some = mac-read _ _ (named_fits key names.SrcMac) (named_fits mask names.SrcMac) (under_mask key mask are 1 (lit< tt))
value_read key mask are names.VlanId some =
    let small = named_fits key names.VlanId in whole_read 12 _ _ _ (number-read 4095 _ (omega (arith, small)) (omega (arith, small))) (all_or_none 12 mask 2 (lit< tt) are.vlan_id) some
value_read key mask are names.VlanPrio some =
    let small = named_fits key names.VlanPrio in whole_read 3 _ _ _ (number-read 7 _ (omega (arith, small)) (omega (arith, small))) (all_or_none 3 mask 3 (lit< tt) are.vlan_prio) some
value_read key mask are names.VlanEthtype some =
    whole_read 16 _ _ _ (ether_type-read _ (named_fits key names.VlanEthtype)) (all_or_none 16 mask 4 (lit< tt) are.vlan_ethtype) some
value_read key mask are names.IpProto some =
    whole_read 8 _ _ _ (ip_protocol-read _ (named_fits key names.IpProto)) (all_or_none 8 mask 5 (lit< tt) are.ip_proto) some
value_read key mask are names.SrcIp some = ipv4_read _ _ (named_fits key names.SrcIp) (prefix 32 mask 6 (lit< tt) are.src_ip) (under_mask key mask are 6 (lit< tt))
value_read key mask are names.DstIp some = ipv4_read _ _ (named_fits key names.DstIp) (prefix 32 mask 7 (lit< tt) are.dst_ip) (under_mask key mask are 7 (lit< tt))
value_read key mask are names.SrcPort some =
    let small = named_fits key names.SrcPort in whole_read 16 _ _ _ (number-read 65535 _ (omega (arith, small)) (omega (arith, small))) (all_or_none 16 mask 8 (lit< tt) are.src_port) some
value_read key mask are names.DstPort some =
    let small = named_fits key names.DstPort in whole_read 16 _ _ _ (number-read 65535 _ (omega (arith, small)) (omega (arith, small))) (all_or_none 16 mask 9 (lit< tt) are.dst_port) some
value_read key mask are names.TcpFlags some =
    masked_hex-read 3 _ _ (lit< tt) (lit< tt) (named_fits key names.TcpFlags) (named_fits mask names.TcpFlags) (under_mask key mask are 10 (lit< tt))
value_read key mask are names.CvlanId some =
    let small = named_fits key names.CvlanId in whole_read 12 _ _ _ (number-read 4095 _ (omega (arith, small)) (omega (arith, small))) (all_or_none 12 mask 11 (lit< tt) are.cvlan_id) some
value_read key mask are names.CvlanPrio some =
    let small = named_fits key names.CvlanPrio in whole_read 3 _ _ _ (number-read 7 _ (omega (arith, small)) (omega (arith, small))) (all_or_none 3 mask 12 (lit< tt) are.cvlan_prio) some
value_read key mask are names.CvlanEthtype some =
    whole_read 16 _ _ _ (ether_type-read _ (named_fits key names.CvlanEthtype)) (all_or_none 16 mask 13 (lit< tt) are.cvlan_ethtype) some
value_read key mask are names.IpTos some =
    masked_hex-read 2 _ _ (lit< tt) (lit< tt) (named_fits key names.IpTos) (named_fits mask names.IpTos) (under_mask key mask are 14 (lit< tt))
value_read key mask are names.IpTtl some =
    let low = named_fits key names.IpTtl in let high = named_fits mask names.IpTtl in
    masked_octet-read _ _ (omega (arith, low)) (omega (arith, high)) (under_mask key mask are 15 (lit< tt))

-- a colon is found where some byte is one
place_is : (p : ℕ → Bool) (text : List ℕ) → nat_lt (prefix_len (λ x. not (p x)) text) (length text) ≡ list_any p text
place_is p [] = refl
place_is p (b ∷ text) = next (p b) (place_is p text)
  where
    next : (t : Bool) → nat_lt (prefix_len (λ x. not (p x)) text) (length text) ≡ list_any p text
        → nat_lt (cond (not t) (1 + prefix_len (λ x. not (p x)) text) 0) (suc (length text)) ≡ (t || list_any p text)
    next true rest = grind (arith, nat_tests)
    next false rest = later ∙ rest
      where
        later : nat_lt (1 + prefix_len (λ x. not (p x)) text) (suc (length text)) ≡ nat_lt (prefix_len (λ x. not (p x)) text) (length text)
        later = grind (arith, nat_tests)

found_some : (t : Bool) (place : ℕ) → is_some (cond t (Some place) None) ≡ t
found_some true place = refl
found_some false place = refl

colon_is : (text : List ℕ) → has_colon text ≡ list_any (λ b. b == 58) text
colon_is text = found_some _ _ ∙ place_is (λ b. b == 58) text

pub ipv4_no_colon : (value mask : ℕ) → value < 2 ^ 32 → IsPrefix 32 mask → has_colon (ipv4_text value (prefix_length_of mask)) ≡ false
ipv4_no_colon value mask small (length, le, is) =
    let found : prefix_length_of mask ≡ length = ap prefix_length_of is ∙ length-of_prefix length le in
    ap (λ n. has_colon (ipv4_text value n)) found ∙ colon_is (ipv4_text value length) ∙ ipv4-no_colon value length small le

pub ipv6_has_colon : (high low length : ℕ) → has_colon (ipv6_text high low length) ≡ true
ipv6_has_colon high low length = colon_is (ipv6_text high low length) ∙ ipv6-colon high low length
