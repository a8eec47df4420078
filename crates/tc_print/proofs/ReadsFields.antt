-- The printed fields of a filter are read back one by one.
use Rattle.std.proofs.Common.{◌≡◌, ◌≢◌, ◌∙◌, ℕ, zero, suc, ◌+◌, ◌*◌, ◌<◌, ◌≤◌, ◌⊎◌, Bool, true, false, List, [], ◌∷◌, ◌++◌, get_or, lit<, Some, refl, sym, ap, ap₂, subst, inl, inr, arith}
use Rattle.std.specs.Prelude.{◌||◌, ◌==◌, not, slice_index_or, if◌then◌else◌}
use Rattle.std.specs.Option.{option_map}
use Rattle.std.proofs.lemmas.Bool.Decides.{nat_tests}
use Rattle.std.proofs.lemmas.List.{get_or-set_other}
use Rattle.std.proofs.Math.ListN.{replicate}
use Rattle.flow_fields.specs.Values.{values_of}
use Rattle.flow_fields.proofs.Puts.{value_at}
use Rattle.filter_state.specs.Fields.{HasPorts, AreFields}
use Rattle.tc_batch.specs.declared.field_name.FieldName.{FieldName}
use Rattle.tc_batch.specs.declared.field_name.FieldName.TheVariants as names
use Rattle.tc_batch.specs.declared.fields.Fields.{Fields}
use Rattle.tc_batch.specs.declared.draft.Head.{Head}
use Rattle.tc_batch.specs.FieldNames.{field_name, field_number}
use Rattle.tc_batch.specs.Fields.{no_fields, protocol_in, has_header, refuses_field, named, with_field_value, with_one, with_ipv6, with_field, field_setting, head_refuses, head_takes, has_colon}
use Rattle.tc_batch.specs.Grammar.{Pairs}
use Rattle.tc_print.specs.FieldWords.{name_text, value_text, value_by_number, field_words, named_words}
use Rattle.tc_print.proofs.Pairs.{pair_is, joined_is}
use Rattle.tc_print.proofs.Copies.{IsCopied, copied_none, copied_next, copied_zero}
use Rattle.tc_print.proofs.ReadsValues.{named_fits, value_read, ipv4_no_colon, zero_under, prefix}

-- What was read of a key and a mask up to a field. The name of a field that is yet to come hasn't stood, nor
-- has the name of an IPv4 address whose mask is 0, up to the IPv6 address of that name.
pub record IsReadTo (key mask : List ℕ) (number : ℕ) (fields : Fields) : Type 0 where
  pub key_read : IsCopied key number fields.key.words
  pub mask_read : IsCopied mask number fields.mask.words
  pub free : (name : ℕ) → name < 16 → (number ≤ name) ⊎ ((value_by_number mask name ≡ 0) × (number ≤ 2 * name + 4)) → slice_index_or fields.given name false ≡ false

no_name : (n i : ℕ) → get_or {A = Bool} (replicate n false) i false ≡ false
no_name zero i = refl
no_name (suc n) zero = refl
no_name (suc n) (suc i) = no_name n i

pub read_none : (key mask : List ℕ) → IsReadTo key mask 0 no_fields
read_none key mask = record { key_read = copied_none key; mask_read = copied_none mask; free = λ name here which. no_name 16 name }

pub below_sixteen : (name : FieldName) → field_number name < 16
below_sixteen names.DstMac = lit< tt
below_sixteen names.SrcMac = lit< tt
below_sixteen names.VlanId = lit< tt
below_sixteen names.VlanPrio = lit< tt
below_sixteen names.VlanEthtype = lit< tt
below_sixteen names.IpProto = lit< tt
below_sixteen names.SrcIp = lit< tt
below_sixteen names.DstIp = lit< tt
below_sixteen names.SrcPort = lit< tt
below_sixteen names.DstPort = lit< tt
below_sixteen names.TcpFlags = lit< tt
below_sixteen names.CvlanId = lit< tt
below_sixteen names.CvlanPrio = lit< tt
below_sixteen names.CvlanEthtype = lit< tt
below_sixteen names.IpTos = lit< tt
below_sixteen names.IpTtl = lit< tt

-- a field whose mask is 0 has nothing printed
pub skipped : (key mask : List ℕ) → AreFields (values_of key) (values_of mask) → (i : ℕ) (fields : Fields) → i < 20
    → value_by_number mask i ≡ 0 → IsReadTo key mask i fields → IsReadTo key mask (suc i) fields
skipped key mask are i fields here none read = record {
  key_read = copied_zero key i fields.key.words here (zero_under key mask are i here none) read.key_read;
  mask_read = copied_zero mask i fields.mask.words here none read.mask_read;
  free = λ name small which. read.free name small (elim which [ inl later ↦ inl (omega arith) | inr (zero_mask, le) ↦ inr (zero_mask, omega arith) ]);
}

-- what is left after one field
abbrev after_one : Fields → FieldName → ℕ → ℕ → Fields
after_one fields name value mask = with_field_value (named fields name) (field_number name) (value, mask)

put : (key mask : List ℕ) (name : FieldName) (fields : Fields) → value_by_number mask (field_number name) ≢ 0
    → IsReadTo key mask (field_number name) fields
    → IsReadTo key mask (suc (field_number name)) (after_one fields name (value_by_number key (field_number name)) (value_by_number mask (field_number name)))
put key mask name fields some read =
    let small : field_number name < 16 = below_sixteen name in
    let here : field_number name < 20 = omega (arith, small) in
    record {
      key_read = copied_next key (field_number name) fields.key.words here read.key_read;
      mask_read = copied_next mask (field_number name) fields.mask.words here read.mask_read;
      free = λ other within which.
          let apart : other ≢ field_number name = λ same. elim which [
            | inl later ↦ omega (arith, same)
            | inr (zero_mask, le) ↦ some (subst (λ k. value_by_number mask k ≡ 0) same zero_mask)
          ] in
          get_or-set_other fields.given (field_number name) other true false apart
          ∙ read.free other within (elim which [ inl later ↦ inl (omega arith) | inr (zero_mask, le) ↦ inr (zero_mask, omega arith) ]);
    }

-- ports and flags stand behind their protocol
protocol_read : (key mask : List ℕ) (i : ℕ) (fields : Fields) → 6 ≤ i → IsReadTo key mask i fields → protocol_in fields ≡ value_by_number key 5
protocol_read key mask i fields after read = read.key_read.below 5 (omega arith) (lit< tt)

ports_stand : (protocol : ℕ) → HasPorts protocol → (protocol == 6 || protocol == 17) ≡ true
ports_stand protocol (inl is) = ap (λ n. n == 6 || n == 17) is
ports_stand protocol (inr is) = ap (λ n. n == 6 || n == 17) is

has_ports : (key mask : List ℕ) → AreFields (values_of key) (values_of mask) → (value_by_number mask 8 ≢ 0) ⊎ (value_by_number mask 9 ≢ 0) → HasPorts (value_by_number key 5)
has_ports key mask are which =
    elim are.ports [
      | inl ports ↦ subst HasPorts (value_at key 5 0 (lit< tt)) ports
      | inr (source, destination) ↦ elim which [
        | inl some ↦ absurd (some (sym (value_at mask 8 0 (lit< tt)) ∙ source))
        | inr some ↦ absurd (some (sym (value_at mask 9 0 (lit< tt)) ∙ destination))
      ]
    ]

has_flags : (key mask : List ℕ) → AreFields (values_of key) (values_of mask) → value_by_number mask 10 ≢ 0 → value_by_number key 5 ≡ 6
has_flags key mask are some =
    elim are.tcp_flags [
      | inl is ↦ sym (value_at key 5 0 (lit< tt)) ∙ is
      | inr none ↦ absurd (some (sym (value_at mask 10 0 (lit< tt)) ∙ none))
    ]

header_stands : (key mask : List ℕ) → AreFields (values_of key) (values_of mask) → (name : FieldName) (fields : Fields) → value_by_number mask (field_number name) ≢ 0
    → IsReadTo key mask (field_number name) fields → has_header fields name ≡ true
header_stands key mask are names.DstMac fields some read = refl
header_stands key mask are names.SrcMac fields some read = refl
header_stands key mask are names.VlanId fields some read = refl
header_stands key mask are names.VlanPrio fields some read = refl
header_stands key mask are names.VlanEthtype fields some read = refl
header_stands key mask are names.IpProto fields some read = refl
header_stands key mask are names.SrcIp fields some read = refl
header_stands key mask are names.DstIp fields some read = refl
header_stands key mask are names.SrcPort fields some read =
    ap (λ n. n == 6 || n == 17) (protocol_read key mask 8 fields (omega arith) read) ∙ ports_stand _ (has_ports key mask are (inl some))
header_stands key mask are names.DstPort fields some read =
    ap (λ n. n == 6 || n == 17) (protocol_read key mask 9 fields (omega arith) read) ∙ ports_stand _ (has_ports key mask are (inr some))
header_stands key mask are names.TcpFlags fields some read =
    ap (λ n. n == 6) (protocol_read key mask 10 fields (omega arith) read ∙ has_flags key mask are some)
header_stands key mask are names.CvlanId fields some read = refl
header_stands key mask are names.CvlanPrio fields some read = refl
header_stands key mask are names.CvlanEthtype fields some read = refl
header_stands key mask are names.IpTos fields some read = refl
header_stands key mask are names.IpTtl fields some read = refl

-- a name whose word hasn't stood and whose header is asked for may stand
pub may_stand : (fields : Fields) (name : FieldName) → slice_index_or fields.given (field_number name) false ≡ false → has_header fields name ≡ true → refuses_field fields name ≡ false
may_stand fields name free header = ap₂ (λ (a b : Bool). a || not b) free header

pub name_is : (name : FieldName) → field_name (name_text name) ≡ Some name
name_is names.DstMac = refl
name_is names.SrcMac = refl
name_is names.VlanId = refl
name_is names.VlanPrio = refl
name_is names.VlanEthtype = refl
name_is names.IpProto = refl
name_is names.SrcIp = refl
name_is names.DstIp = refl
name_is names.SrcPort = refl
name_is names.DstPort = refl
name_is names.TcpFlags = refl
name_is names.CvlanId = refl
name_is names.CvlanPrio = refl
name_is names.CvlanEthtype = refl
name_is names.IpTos = refl
name_is names.IpTtl = refl

-- an address without a colon is one of IPv4
source_is_one : (fields : Fields) (text : List ℕ) → has_colon text ≡ false → with_field fields names.SrcIp text ≡ with_one fields names.SrcIp text
source_is_one fields text none = ap (λ (b : Bool). if b then with_ipv6 fields names.SrcIp 16 text else with_one fields names.SrcIp text) none

destination_is_one : (fields : Fields) (text : List ℕ) → has_colon text ≡ false → with_field fields names.DstIp text ≡ with_one fields names.DstIp text
destination_is_one fields text none = ap (λ (b : Bool). if b then with_ipv6 fields names.DstIp 18 text else with_one fields names.DstIp text) none

is_one : (key mask : List ℕ) → AreFields (values_of key) (values_of mask) → (name : FieldName) (fields : Fields) →
    let text : List ℕ = value_text name (value_by_number key (field_number name)) (value_by_number mask (field_number name)) in
    with_field fields name text ≡ with_one fields name text
is_one key mask are names.DstMac fields = refl
is_one key mask are names.SrcMac fields = refl
is_one key mask are names.VlanId fields = refl
is_one key mask are names.VlanPrio fields = refl
is_one key mask are names.VlanEthtype fields = refl
is_one key mask are names.IpProto fields = refl
is_one key mask are names.SrcIp fields = source_is_one fields _ (ipv4_no_colon _ _ (named_fits key names.SrcIp) (prefix 32 mask 6 (lit< tt) are.src_ip))
is_one key mask are names.DstIp fields = destination_is_one fields _ (ipv4_no_colon _ _ (named_fits key names.DstIp) (prefix 32 mask 7 (lit< tt) are.dst_ip))
is_one key mask are names.SrcPort fields = refl
is_one key mask are names.DstPort fields = refl
is_one key mask are names.TcpFlags fields = refl
is_one key mask are names.CvlanId fields = refl
is_one key mask are names.CvlanPrio fields = refl
is_one key mask are names.CvlanEthtype fields = refl
is_one key mask are names.IpTos fields = refl
is_one key mask are names.IpTtl fields = refl

-- a line up to its actions, with other fields
abbrev pub head_with : Head → Fields → Head
head_with head fields = record head { fields = fields }

-- one printed field, or none where its mask is 0
field_is : (key mask : List ℕ) → AreFields (values_of key) (values_of mask) → (More : Head → List (List ℕ) → Type 0) (head : Head) (name : FieldName) (fields : Fields) (rest : List (List ℕ))
    → IsReadTo key mask (field_number name) fields
    → ((next : Fields) → IsReadTo key mask (suc (field_number name)) next → Pairs field_setting More (head_with head next) rest)
    → Pairs field_setting More (head_with head fields) (field_words key mask name ++ rest)
field_is key mask are More head name fields rest read more = by (value_by_number mask (field_number name) == 0) refl
  where
    by : (t : Bool) → (value_by_number mask (field_number name) == 0) ≡ t
        → Pairs field_setting More (head_with head fields) ((if t then [] else name_text name ∷ value_text name (value_by_number key (field_number name)) (value_by_number mask (field_number name)) ∷ []) ++ rest)
    by true is =
        let here = below_sixteen name in let none : value_by_number mask (field_number name) ≡ 0 = grind (arith, nat_tests) in
        more fields (skipped key mask are (field_number name) fields (omega (arith, here)) none read)
    by false is =
        let some : value_by_number mask (field_number name) ≢ 0 = λ none. absurd (cc (sym is ∙ ap (λ n. n == 0) none)) in
        let v : ℕ = value_by_number key (field_number name) in let m : ℕ = value_by_number mask (field_number name) in
        pair_is field_name head_refuses head_takes More (head_with head fields) (name_text name) (value_text name v m) rest name (head_with head (after_one fields name v m))
        (name_is name)
        (may_stand fields name (read.free (field_number name) (below_sixteen name) (inl (omega arith))) (header_stands key mask are name fields some read))
        (ap (option_map (λ it. head_with head it)) (is_one key mask are name fields ∙ ap (option_map (with_field_value (named fields name) (field_number name))) (value_read key mask are name some)))
        (more (after_one fields name v m) (put key mask name fields some read))

-- the names have the numbers from one on, up to another
abbrev pub Follow : ℕ → ℕ → List FieldName → Type 0
Follow from to [] = from ≡ to
Follow from to (name ∷ more) = (field_number name ≡ from) × Follow (suc from) to more

-- the printed fields of some names in order
pub fields_are : (key mask : List ℕ) → AreFields (values_of key) (values_of mask) → (More : Head → List (List ℕ) → Type 0) (head : Head) (from to : ℕ) (names_left : List FieldName) (fields : Fields) (rest : List (List ℕ))
    → Follow from to names_left → IsReadTo key mask from fields
    → ((next : Fields) → IsReadTo key mask to next → Pairs field_setting More (head_with head next) rest)
    → Pairs field_setting More (head_with head fields) (named_words key mask names_left ++ rest)
fields_are key mask are More head from to [] fields rest is read more = more fields (subst (λ n. IsReadTo key mask n fields) is read)
fields_are key mask are More head from to (name ∷ names_left) fields rest (is, follow) read more =
    joined_is (Pairs field_setting More (head_with head fields)) (field_words key mask name) (named_words key mask names_left) rest
    (field_is key mask are More head name fields (named_words key mask names_left ++ rest) (subst (λ n. IsReadTo key mask n fields) (sym is) read)
    (λ next read_next. fields_are key mask are More head (suc from) to names_left next rest follow (subst (λ n. IsReadTo key mask (suc n) next) is read_next) more))
