-- The key and the mask of a filter's fields, where values are put into them.
use Rattle.std.proofs.Common.{◌≡◌, ◌∙◌, ℕ, ◌+◌, ◌-◌, ◌^◌, ◌<◌, Bool, List, length, get_or, refl, sym, subst, arith, inl, inr}
use Rattle.std.specs.Prelude.{slice_set}
use Rattle.std.proofs.lemmas.List.{length-set}
use Rattle.flow_fields.specs.Table.{field_at}
use Rattle.flow_fields.specs.Values.{with_value, values_of, zeros, IsTidy}
use Rattle.flow_fields.proofs.Places.{placed}
use Rattle.flow_fields.proofs.Puts.{values_put, strays_put, zero_at, zero_values, zero_tidy}
use Rattle.filter_state.specs.Fields.{AreFields, AreKeys, IsPrefix}
use Rattle.tc_batch.specs.declared.fields.Fields.{Fields}
use Rattle.tc_batch.specs.Fields.{no_names, no_fields}
use Rattle.line_range_laws.proofs.FieldLists.{MaskKind, all_or_none, prefix, any, mask_kinds, IsMaskOf, IsMaskAt, IsUnder, IsEach}
use Rattle.line_range_laws.proofs.FieldSets.{AreSet}

-- fourteen words with no stray bit
pub record IsKey (words : List ℕ) : Type 0 where
  pub count : length words ≡ 14
  pub tidy : IsTidy words

pub key_put : (words : List ℕ) (i value : ℕ) → i < 20 → value < 2 ^ (field_at i).width → IsKey words → IsKey (with_value words i value)
key_put words i value here fits h =
    let place = (placed i here).word in
    let count = h.count in
    let within : (field_at i).word < length words = omega arith in record {
      count = length-set words _ _ ∙ h.count;
      tidy = λ word bit free. strays_put words i value here within fits word bit free ∙ h.tidy word bit free;
    }

pub values_after : (words : List ℕ) (i value : ℕ) → i < 20 → value < 2 ^ (field_at i).width → IsKey words → values_of (with_value words i value) ≡ slice_set (values_of words) i value
values_after words i value here fits h =
    let place = (placed i here).word in
    let count = h.count in
    let within : (field_at i).word < length words = omega arith in values_put words i value here within fits

-- what is known of the fields of a line
pub record AreGiven (fields : Fields) : Type 0 where
  pub key : IsKey fields.key.words
  pub mask : IsKey fields.mask.words
  pub set : AreSet fields.given (values_of fields.key.words) (values_of fields.mask.words)

-- no field yet
no_bit : (width : ℕ) → IsPrefix width 0
no_bit width =
    let all : width - 0 ≡ width = omega arith in
    (0, omega arith, subst (λ n. 0 ≡ 2 ^ width - 2 ^ n) (sym all) (omega arith))

zero_mask : (kind : MaskKind) → IsMaskOf kind 0
zero_mask (all_or_none width) = inr refl
zero_mask (prefix width) = no_bit width
zero_mask any = tt

zero_each : IsEach zeros zeros
zero_each =
    record {
      values_count = refl;
      masks_count = refl;
      under = λ i. subst (λ n. IsUnder n n) (sym (zero_at 20 i)) refl;
      kinds = λ i. subst (IsMaskAt i) (sym (zero_at 20 i)) (zero_mask (get_or mask_kinds i any));
    }

zero_set : AreSet no_names zeros zeros
zero_set =
    record {
      names = refl;
      each = zero_each;
      headers = record { unset = λ free. refl; ports = inr (refl, refl); flags = inr refl };
      sources = record { unset = λ free. (refl, refl, refl); long = no_bit 128; one = inl refl };
      destinations = record { unset = λ free. (refl, refl, refl); long = no_bit 128; one = inl refl };
    }

pub none_given : AreGiven no_fields
none_given =
    record {
      key = record { count = refl; tidy = zero_tidy 14 };
      mask = record { count = refl; tidy = zero_tidy 14 };
      set = subst (λ (values : List ℕ). AreSet no_names values values) (sym (zero_values 14)) zero_set;
    }

-- a value with its mask put into one field
pub put : (fields : Fields) (given : List Bool) (i value mask : ℕ) → i < 20 → value < 2 ^ (field_at i).width → mask < 2 ^ (field_at i).width → IsKey fields.key.words → IsKey fields.mask.words
    → AreSet given (slice_set (values_of fields.key.words) i value) (slice_set (values_of fields.mask.words) i mask)
    → AreGiven (record { given = given; key = record { words = with_value fields.key.words i value }; mask = record { words = with_value fields.mask.words i mask } })
put fields given i value mask here fits mask_fits key masks set =
    record {
      key = key_put fields.key.words i value here fits key;
      mask = key_put fields.mask.words i mask here mask_fits masks;
      set = subst (λ (values : List ℕ). AreSet given values (values_of (with_value fields.mask.words i mask))) (sym (values_after fields.key.words i value here fits key))
          (subst (λ (values : List ℕ). AreSet given (slice_set (values_of fields.key.words) i value) values) (sym (values_after fields.mask.words i mask here mask_fits masks)) set);
    }

-- and into the field behind it
pub put_two : (fields : Fields) (given : List Bool) (high upper lower upper_mask lower_mask : ℕ) → high + 1 < 20 → upper < 2 ^ (field_at high).width → lower < 2 ^ (field_at (high + 1)).width
    → upper_mask < 2 ^ (field_at high).width → lower_mask < 2 ^ (field_at (high + 1)).width → IsKey fields.key.words → IsKey fields.mask.words
    → AreSet given (slice_set (slice_set (values_of fields.key.words) high upper) (high + 1) lower) (slice_set (slice_set (values_of fields.mask.words) high upper_mask) (high + 1) lower_mask)
    → AreGiven (record { given = given; key = record { words = with_value (with_value fields.key.words high upper) (high + 1) lower }; mask = record { words = with_value (with_value fields.mask.words high upper_mask) (high + 1) lower_mask } })
put_two fields given high upper lower upper_mask lower_mask here upper_fits lower_fits upper_mask_fits lower_mask_fits key masks set =
    let first : high < 20 = omega arith in
    put (record { given = given; key = record { words = with_value fields.key.words high upper }; mask = record { words = with_value fields.mask.words high upper_mask } }) given (high + 1) lower lower_mask here lower_fits lower_mask_fits
    (key_put fields.key.words high upper first upper_fits key) (key_put fields.mask.words high upper_mask first upper_mask_fits masks)
    (subst (λ (values : List ℕ). AreSet given (slice_set values (high + 1) lower) (slice_set (values_of (with_value fields.mask.words high upper_mask)) (high + 1) lower_mask)) (sym (values_after fields.key.words high upper first upper_fits key))
    (subst (λ (values : List ℕ). AreSet given (slice_set (slice_set (values_of fields.key.words) high upper) (high + 1) lower) (slice_set values (high + 1) lower_mask)) (sym (values_after fields.mask.words high upper_mask first upper_mask_fits masks)) set))

-- the ranges of a filter's fields
in_range : (given : List Bool) (values masks : List ℕ) → AreSet given values masks → AreFields values masks
in_range given values masks h =
    record {
      under = λ field here. h.each.under field;
      vlan_id = h.each.kinds 2;
      vlan_prio = h.each.kinds 3;
      vlan_ethtype = h.each.kinds 4;
      ip_proto = h.each.kinds 5;
      src_ip = h.each.kinds 6;
      dst_ip = h.each.kinds 7;
      src_port = h.each.kinds 8;
      dst_port = h.each.kinds 9;
      ports = h.headers.ports;
      tcp_flags = h.headers.flags;
      cvlan_id = h.each.kinds 11;
      cvlan_prio = h.each.kinds 12;
      cvlan_ethtype = h.each.kinds 13;
      src_ip6 = h.sources.long;
      dst_ip6 = h.destinations.long;
      one_source = h.sources.one;
      one_destination = h.destinations.one;
    }

pub keys_in_range : (fields : Fields) → AreGiven fields → AreKeys fields.key.words fields.mask.words
keys_in_range fields h = record { key_count = h.key.count; mask_count = h.mask.count; key_tidy = h.key.tidy; mask_tidy = h.mask.tidy; fields = in_range fields.given (values_of fields.key.words) (values_of fields.mask.words) h.set }
