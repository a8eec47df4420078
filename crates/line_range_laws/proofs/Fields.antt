-- What is known of the fields of a line stays true with each field that it names.
use Rattle.std.proofs.Common.{◌≡◌, ◌∙◌, ℕ, ◌/◌, ◌%◌, ◌^◌, ◌<◌, Bool, true, false, List, get_or, Option, Some, refl, sym, subst, arith, inl, inr}
use Rattle.std.specs.Prelude.{◌⊎◌, ◌||◌, ◌==◌, not, slice_set, if◌then◌else◌}
use borrow.Author.Tests.{eqb-true}
use Rattle.tc_words.specs.Ipv6Addresses.{ipv6_of, ipv6_mask}
use Rattle.flow_fields.specs.Table.{field_at}
use Rattle.flow_fields.specs.Values.{values_of}
use Rattle.flow_fields.proofs.Puts.{value_at}
use Rattle.filter_state.specs.Fields.{HasPorts}
use Rattle.tc_batch.specs.declared.field_name.FieldName.{FieldName}
use Rattle.tc_batch.specs.declared.field_name.FieldName.TheVariants as names
use Rattle.tc_batch.specs.declared.fields.Fields.{Fields}
use Rattle.tc_batch.specs.FieldNames.{field_number, field_value}
use Rattle.tc_batch.specs.Fields.{protocol_in, has_header, refuses_field, named, with_field_value, with_one, with_prefix, with_ipv6, has_colon, with_field}
use Rattle.line_range_laws.proofs.Rules.{mapped}
use Rattle.line_range_laws.proofs.FieldSets.{AreSet, set_plain, set_protocol, set_port, set_flags, set_source, set_destination, set_long_source, set_long_destination}
use Rattle.tc_batch.proofs.FieldWidths.{width_of, width_is}
use Rattle.line_range_laws.proofs.FieldValues.{half_widths, number_below, IsInField, value_range, halves_range}
use Rattle.line_range_laws.proofs.Keys.{AreGiven, put, put_two}

-- the name has not stood, and it may stand here
free_name : (a b : Bool) → (a || not b) ≡ false → (a ≡ false) × (b ≡ true)
free_name true b e = absurd (cc e)
free_name false true e = (refl, refl)
free_name false false e = absurd (cc e)

ports_by : (protocol : ℕ) (a b : Bool) → (protocol == 6) ≡ a → (protocol == 17) ≡ b → (a || b) ≡ true → HasPorts protocol
ports_by protocol true b six other e = inl (eqb-true protocol 6 six)
ports_by protocol false true six other e = inr (eqb-true protocol 17 other)
ports_by protocol false false six other e = absurd (cc e)

behind_ports : (fields : Fields) → (protocol_in fields == 6 || protocol_in fields == 17) ≡ true → HasPorts (get_or (values_of fields.key.words) 5 0)
behind_ports fields e = subst HasPorts (sym (value_at fields.key.words 5 0 (omega arith))) (ports_by (protocol_in fields) _ _ refl refl e)

behind_flags : (fields : Fields) → (protocol_in fields == 6) ≡ true → get_or (values_of fields.key.words) 5 0 ≡ 6
behind_flags fields e = value_at fields.key.words 5 0 (omega arith) ∙ eqb-true (protocol_in fields) 6 e

-- a field by a value and a mask
abbrev SetOne : Fields → FieldName → Type 0
SetOne fields name = (v m : ℕ) → IsInField name v m
    → AreSet (slice_set fields.given (field_number name) true) (slice_set (values_of fields.key.words) (field_number name) v) (slice_set (values_of fields.mask.words) (field_number name) m)

fits : (name : FieldName) (n : ℕ) → n < 2 ^ width_of name → n < 2 ^ (field_at (field_number name)).width
fits name n below = subst (λ w. n < 2 ^ w) (width_is name) below

one_field : (fields : Fields) (name : FieldName) (word : List ℕ) (next : Fields) → AreGiven fields → SetOne fields name → with_one fields name word ≡ Some next → AreGiven next
one_field fields name word next h set e =
    let place : field_number name < 20 = omega (arith, number_below name) in
    mapped (with_field_value (named fields name) (field_number name)) (field_value name word) AreGiven
    (λ a is.
    let r = value_range name word a.0 a.1 is in
    put fields (slice_set fields.given (field_number name) true) (field_number name) a.0 a.1 place (fits name a.0 r.value) (fits name a.1 r.mask) h.key h.mask (set a.0 a.1 r))
    next e

-- an address by two halves
half_fits : (w n : ℕ) → 64 ≡ w → n < 2 ^ 64 → n < 2 ^ w
half_fits w n same below = subst (λ k. n < 2 ^ k) same below

long_source : (fields : Fields) (word : List ℕ) (next : Fields) → AreGiven fields → get_or fields.given 6 false ≡ false → with_ipv6 fields names.SrcIp 16 word ≡ Some next → AreGiven next
long_source fields word next h free e =
    mapped (with_prefix (named fields names.SrcIp) 16) (ipv6_of word) AreGiven
    (λ w is.
    let r = halves_range word w is in
    put_two fields (slice_set fields.given 6 true) 16 w.high w.low (ipv6_mask w.length / 2 ^ 64) (ipv6_mask w.length % 2 ^ 64) (omega arith)
    (half_fits _ w.high half_widths.0 r.high_value) (half_fits _ w.low half_widths.1 r.low_value) (half_fits _ _ half_widths.0 r.high_mask) (half_fits _ _ half_widths.1 r.low_mask) h.key h.mask
    (set_long_source fields.given (values_of fields.key.words) (values_of fields.mask.words) w.high w.low (ipv6_mask w.length / 2 ^ 64) (ipv6_mask w.length % 2 ^ 64) free r.high_under r.low_under r.prefix h.set))
    next e

long_destination : (fields : Fields) (word : List ℕ) (next : Fields) → AreGiven fields → get_or fields.given 7 false ≡ false → with_ipv6 fields names.DstIp 18 word ≡ Some next → AreGiven next
long_destination fields word next h free e =
    mapped (with_prefix (named fields names.DstIp) 18) (ipv6_of word) AreGiven
    (λ w is.
    let r = halves_range word w is in
    put_two fields (slice_set fields.given 7 true) 18 w.high w.low (ipv6_mask w.length / 2 ^ 64) (ipv6_mask w.length % 2 ^ 64) (omega arith)
    (half_fits _ w.high half_widths.2 r.high_value) (half_fits _ w.low half_widths.3 r.low_value) (half_fits _ _ half_widths.2 r.high_mask) (half_fits _ _ half_widths.3 r.low_mask) h.key h.mask
    (set_long_destination fields.given (values_of fields.key.words) (values_of fields.mask.words) w.high w.low (ipv6_mask w.length / 2 ^ 64) (ipv6_mask w.length % 2 ^ 64) free r.high_under r.low_under r.prefix h.set))
    next e

plain : (fields : Fields) (name : FieldName) → AreGiven fields → (field_number name < 5) ⊎ ((10 < field_number name) × (field_number name < 16)) → SetOne fields name
plain fields name h place = λ v m r. set_plain fields.given (values_of fields.key.words) (values_of fields.mask.words) (field_number name) v m place r.under r.kind h.set

source : (fields : Fields) (word : List ℕ) (next : Fields) (colon : Bool) → AreGiven fields → get_or fields.given 6 false ≡ false → ◌≡◌ {A = Option Fields} (if colon then with_ipv6 fields names.SrcIp 16 word else with_one fields names.SrcIp word) (Some next) → AreGiven next
source fields word next true h free e = long_source fields word next h free e
source fields word next false h free e =
    one_field fields names.SrcIp word next h (λ v m r. set_source fields.given (values_of fields.key.words) (values_of fields.mask.words) v m free r.under r.kind h.set) e

destination : (fields : Fields) (word : List ℕ) (next : Fields) (colon : Bool) → AreGiven fields → get_or fields.given 7 false ≡ false → ◌≡◌ {A = Option Fields} (if colon then with_ipv6 fields names.DstIp 18 word else with_one fields names.DstIp word) (Some next) → AreGiven next
destination fields word next true h free e = long_destination fields word next h free e
destination fields word next false h free e =
    one_field fields names.DstIp word next h (λ v m r. set_destination fields.given (values_of fields.key.words) (values_of fields.mask.words) v m free r.under r.kind h.set) e

-- each of the names
named_field : (fields : Fields) (name : FieldName) (word : List ℕ) (next : Fields) → AreGiven fields → get_or fields.given (field_number name) false ≡ false → has_header fields name ≡ true → with_field fields name word ≡ Some next → AreGiven next
named_field fields names.DstMac word next h free may e = one_field fields names.DstMac word next h (plain fields names.DstMac h (inl (omega arith))) e
named_field fields names.SrcMac word next h free may e = one_field fields names.SrcMac word next h (plain fields names.SrcMac h (inl (omega arith))) e
named_field fields names.VlanId word next h free may e = one_field fields names.VlanId word next h (plain fields names.VlanId h (inl (omega arith))) e
named_field fields names.VlanPrio word next h free may e = one_field fields names.VlanPrio word next h (plain fields names.VlanPrio h (inl (omega arith))) e
named_field fields names.VlanEthtype word next h free may e = one_field fields names.VlanEthtype word next h (plain fields names.VlanEthtype h (inl (omega arith))) e
named_field fields names.IpProto word next h free may e =
    one_field fields names.IpProto word next h (λ v m r. set_protocol fields.given (values_of fields.key.words) (values_of fields.mask.words) v m free r.under r.kind h.set) e
named_field fields names.SrcIp word next h free may e = source fields word next (has_colon word) h free e
named_field fields names.DstIp word next h free may e = destination fields word next (has_colon word) h free e
named_field fields names.SrcPort word next h free may e =
    one_field fields names.SrcPort word next h (λ v m r. set_port fields.given (values_of fields.key.words) (values_of fields.mask.words) 8 v m (omega arith) (omega arith) (behind_ports fields may) r.under r.kind h.set) e
named_field fields names.DstPort word next h free may e =
    one_field fields names.DstPort word next h (λ v m r. set_port fields.given (values_of fields.key.words) (values_of fields.mask.words) 9 v m (omega arith) (omega arith) (behind_ports fields may) r.under r.kind h.set) e
named_field fields names.TcpFlags word next h free may e =
    one_field fields names.TcpFlags word next h (λ v m r. set_flags fields.given (values_of fields.key.words) (values_of fields.mask.words) v m (behind_flags fields may) r.under r.kind h.set) e
named_field fields names.CvlanId word next h free may e = one_field fields names.CvlanId word next h (plain fields names.CvlanId h (inr (omega arith, omega arith))) e
named_field fields names.CvlanPrio word next h free may e = one_field fields names.CvlanPrio word next h (plain fields names.CvlanPrio h (inr (omega arith, omega arith))) e
named_field fields names.CvlanEthtype word next h free may e = one_field fields names.CvlanEthtype word next h (plain fields names.CvlanEthtype h (inr (omega arith, omega arith))) e
named_field fields names.IpTos word next h free may e = one_field fields names.IpTos word next h (plain fields names.IpTos h (inr (omega arith, omega arith))) e
named_field fields names.IpTtl word next h free may e = one_field fields names.IpTtl word next h (plain fields names.IpTtl h (inr (omega arith, omega arith))) e

pub field_kept : (fields : Fields) (name : FieldName) (word : List ℕ) (next : Fields) → AreGiven fields → refuses_field fields name ≡ false → with_field fields name word ≡ Some next → AreGiven next
field_kept fields name word next h free e =
    let may = free_name (get_or fields.given (field_number name) false) (has_header fields name) free in
    named_field fields name word next h may.0 may.1 e
