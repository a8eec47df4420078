-- The printed words of the fields hold no blank and no number sign.
use Rattle.std.proofs.Common.{◌≡◌, ℕ, ◌^◌, ◌<◌, Bool, true, false, List, [], ◌∷◌, lit<, refl, inl, inr, arith}
use Rattle.std.specs.Prelude.{◌&&◌, ◌==◌, if◌then◌else◌}
use Rattle.std.specs.List.{list_all}
use Rattle.line_texts.specs.CleanWords.{is_clean}
use Rattle.line_texts.specs.Texts.{ipv6_text, prefix_length_of, ipv6_length_of}
use Rattle.line_texts.proofs.Decimals.{decimal-clean}
use Rattle.line_texts.proofs.EtherTypes.{ether_type-clean}
use Rattle.line_texts.proofs.IpProtocols.{ip_protocol-clean}
use Rattle.line_texts.proofs.Ipv4Texts.{ipv4-clean}
use Rattle.line_texts.proofs.Ipv6Texts.{ipv6-clean}
use Rattle.line_texts.proofs.MacTexts.{mac-clean}
use Rattle.line_texts.proofs.Masked.{masked_hex-clean, masked_octet-clean}
use Rattle.tc_batch.specs.declared.field_name.FieldName.{FieldName}
use Rattle.tc_batch.specs.declared.field_name.FieldName.TheVariants as names
use Rattle.tc_batch.specs.FieldNames.{field_number}
use Rattle.tc_print.specs.FieldWords.{name_text, value_text, value_by_number, field_words, prefix_words, named_words, all_names, prefixes_words, fields_words}
use Rattle.tc_batch.proofs.FieldWidths.{width_of}
use Rattle.tc_print.proofs.ReadsValues.{named_fits, half_fits}
use Rattle.tc_print.proofs.CleanActions.{clean_joined, clean_more}

name_clean : (name : FieldName) → is_clean (name_text name) ≡ true
name_clean names.DstMac = refl
name_clean names.SrcMac = refl
name_clean names.VlanId = refl
name_clean names.VlanPrio = refl
name_clean names.VlanEthtype = refl
name_clean names.IpProto = refl
name_clean names.SrcIp = refl
name_clean names.DstIp = refl
name_clean names.SrcPort = refl
name_clean names.DstPort = refl
name_clean names.TcpFlags = refl
name_clean names.CvlanId = refl
name_clean names.CvlanPrio = refl
name_clean names.CvlanEthtype = refl
name_clean names.IpTos = refl
name_clean names.IpTtl = refl

value_clean : (name : FieldName) (value mask : ℕ) → value < 2 ^ width_of name → mask < 2 ^ width_of name → is_clean (value_text name value mask) ≡ true
value_clean names.DstMac value mask v m = mac-clean value mask v m
value_clean names.SrcMac value mask v m = mac-clean value mask v m
value_clean names.VlanId value mask v m = decimal-clean value (omega arith)
value_clean names.VlanPrio value mask v m = decimal-clean value (omega arith)
value_clean names.VlanEthtype value mask v m = ether_type-clean value v
value_clean names.IpProto value mask v m = ip_protocol-clean value v
value_clean names.SrcIp value mask v m = ipv4-clean value (prefix_length_of mask) v (omega arith)
value_clean names.DstIp value mask v m = ipv4-clean value (prefix_length_of mask) v (omega arith)
value_clean names.SrcPort value mask v m = decimal-clean value (omega arith)
value_clean names.DstPort value mask v m = decimal-clean value (omega arith)
value_clean names.TcpFlags value mask v m = masked_hex-clean 3 value mask (lit< tt) (lit< tt) v m
value_clean names.CvlanId value mask v m = decimal-clean value (omega arith)
value_clean names.CvlanPrio value mask v m = decimal-clean value (omega arith)
value_clean names.CvlanEthtype value mask v m = ether_type-clean value v
value_clean names.IpTos value mask v m = masked_hex-clean 2 value mask (lit< tt) (lit< tt) v m
value_clean names.IpTtl value mask v m = masked_octet-clean value mask (omega arith) (omega arith)

-- a pair, or nothing
pair_clean : (none : Bool) (name value : List ℕ) → is_clean name ≡ true → is_clean value ≡ true → list_all is_clean (if none then [] else name ∷ value ∷ []) ≡ true
pair_clean true name value n v = refl
pair_clean false name value n v = clean_more name (value ∷ []) n (clean_more value [] v refl)

field_clean : (key mask : List ℕ) (name : FieldName) → list_all is_clean (field_words key mask name) ≡ true
field_clean key mask name =
    pair_clean (value_by_number mask (field_number name) == 0) (name_text name) _ (name_clean name)
    (value_clean name (value_by_number key (field_number name)) (value_by_number mask (field_number name)) (named_fits key name) (named_fits mask name))

named_clean : (key mask : List ℕ) (left : List FieldName) → list_all is_clean (named_words key mask left) ≡ true
named_clean key mask [] = refl
named_clean key mask (name ∷ left) = clean_joined (field_words key mask name) (named_words key mask left) (field_clean key mask name) (named_clean key mask left)

address_clean : (high low mask_high mask_low : ℕ) → high < 2 ^ 64 → low < 2 ^ 64 → is_clean (ipv6_text high low (ipv6_length_of mask_high mask_low)) ≡ true
address_clean high low mask_high mask_low h l = ipv6-clean high low (ipv6_length_of mask_high mask_low) h l (omega arith)

prefixes_clean : (key mask : List ℕ) → list_all is_clean (prefixes_words key mask) ≡ true
prefixes_clean key mask =
    clean_joined (prefix_words key mask 16 (name_text names.SrcIp)) (prefix_words key mask 18 (name_text names.DstIp))
    (pair_clean (value_by_number mask 16 == 0 && value_by_number mask 17 == 0) (name_text names.SrcIp) _ refl
    (address_clean (value_by_number key 16) (value_by_number key 17) (value_by_number mask 16) (value_by_number mask 17) (half_fits key 16 (inl refl)) (half_fits key 17 (inr (inl refl)))))
    (pair_clean (value_by_number mask 18 == 0 && value_by_number mask 19 == 0) (name_text names.DstIp) _ refl
    (address_clean (value_by_number key 18) (value_by_number key 19) (value_by_number mask 18) (value_by_number mask 19) (half_fits key 18 (inr (inr (inl refl)))) (half_fits key 19 (inr (inr (inr refl))))))

pub fields_clean : (key mask : List ℕ) → list_all is_clean (fields_words key mask) ≡ true
fields_clean key mask = clean_joined (named_words key mask all_names) (prefixes_words key mask) (named_clean key mask all_names) (prefixes_clean key mask)
