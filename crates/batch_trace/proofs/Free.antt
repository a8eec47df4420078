-- In the words that are printed no line ends, whatever the numbers.
use Rattle.std.proofs.Common.{◌≡◌, ◌∙◌, ℕ, zero, suc, ◌+◌, ◌/◌, ◌%◌, ◌^◌, ◌==◌, Bool, true, false, List, [], ◌∷◌, ◌++◌, Option, Some, None, refl, arith}
use Rattle.std.specs.Prelude.{not, nat_lt, codes, ◌&&◌, if◌then◌else◌}
use Rattle.std.specs.List.{list_all, join_with_byte, flat_map}
use Rattle.std.specs.Option.{unwrap_or}
use Rattle.std.specs.Char.{digit_char}
use Rattle.std.specs.Fmt.{decimal, digits, digits_onto, digit_glyph}
use Rattle.std.proofs.lemmas.Bool.Decides.{nat_tests}
use Rattle.std.proofs.lemmas.List.Folds.{list_all-append}
use Rattle.tc_base.specs.declared.hook.Hook.{Hook}
use Rattle.tc_base.specs.declared.hook.Hook.TheVariants as hooks
use Rattle.tc_base.specs.declared.hook.Proto.{Proto}
use Rattle.tc_base.specs.declared.hook.Proto.TheVariants as protocols
use Rattle.act_kinds.specs.declared.params.Control.{Control}
use Rattle.act_kinds.specs.declared.params.Control.TheVariants as controls
use Rattle.act_kinds.specs.declared.params.Kind.{Kind}
use Rattle.act_kinds.specs.declared.params.Kind.TheVariants as kinds
use Rattle.act_kinds.specs.declared.params.VlanOp.{VlanOp}
use Rattle.act_kinds.specs.declared.params.VlanOp.TheVariants as ops
use Rattle.act_kinds.specs.declared.params.Params.{Params}
use Rattle.act_kinds.specs.declared.params.Params.TheVariants as params
use Rattle.tc_batch.specs.declared.field_name.FieldName.{FieldName}
use Rattle.tc_batch.specs.declared.field_name.FieldName.TheVariants as names
use Rattle.tc_batch.specs.FieldNames.{field_number}
use Rattle.tc_batch.specs.KindNames.{kind_text}
use Rattle.line_texts.specs.Texts.{hex_text, handle_text, two_digits, four_digits, marked, ether_type_text, protocol_text, ip_protocol_text, class_text, masked_hex_text, masked_octet_text, three_octets, mac_address_text, masked_mac_text, mac_text}
use Rattle.line_texts.specs.Texts.{two_groups, two_octets, dotted, ipv4_text, four_groups, ipv6_address_text, ipv6_text, prefix_length_of, ipv6_length_of}
use Rattle.line_texts.proofs.Joins.{and-both, all-joined}
use Rattle.tc_print.specs.EditWords.{hook_text}
use Rattle.tc_print.specs.ActionWords.{control_words, number_words, tag_words, op_words, class_words, mark_words, params_words}
use Rattle.tc_print.specs.FieldWords.{name_text, value_text, value_by_number, field_words, prefix_words, named_words, all_names, prefixes_words, fields_words}
use Rattle.batch_trace.proofs.Untold.{free}

abbrev is_inner : ℕ → Bool
is_inner b = not (b == 10)

pub free_append : (a b : List ℕ) → free a ≡ true → free b ≡ true → free (a ++ b) ≡ true
free_append a b first second = list_all-append is_inner a b ∙ and-both (free a) (free b) first second

-- ---- words
abbrev pub all_free : List (List ℕ) → Bool
all_free words = list_all free words

pub word_more : (word : List ℕ) (words : List (List ℕ)) → free word ≡ true → all_free words ≡ true → all_free (word ∷ words) ≡ true
word_more word words first rest = and-both (free word) (all_free words) first rest

pub words_append : (a b : List (List ℕ)) → all_free a ≡ true → all_free b ≡ true → all_free (a ++ b) ≡ true
words_append a b first second = list_all-append free a b ∙ and-both (all_free a) (all_free b) first second

pub words_if : (test : Bool) (a b : List (List ℕ)) → all_free a ≡ true → all_free b ≡ true → all_free (if test then a else b) ≡ true
words_if true a b first second = first
words_if false a b first second = second

-- words that are joined by a byte that ends no line
pub join_free : (byte : ℕ) → is_inner byte ≡ true → (parts : List (List ℕ)) → all_free parts ≡ true → free (join_with_byte byte parts) ≡ true
join_free byte inner parts each = all-joined is_inner byte inner parts each

two_free : (byte : ℕ) → is_inner byte ≡ true → (a b : List ℕ) → free a ≡ true → free b ≡ true → free (join_with_byte byte (a ∷ b ∷ [])) ≡ true
two_free byte inner a b first second = join_free byte inner (a ∷ b ∷ []) (word_more a (b ∷ []) first (word_more b [] second refl))

pub spaced_free : (words : List (List ℕ)) → all_free words ≡ true → free (join_with_byte 32 words) ≡ true
spaced_free words each = join_free 32 refl words each

pub behind_free : (words : List (List ℕ)) → all_free words ≡ true → free (flat_map (λ (word : List ℕ). 32 ∷ word) words) ≡ true
behind_free [] each = refl
behind_free (word ∷ words) each =
    free_append word (flat_map (λ (w : List ℕ). 32 ∷ w) words) (left (free word) (all_free words) each) (behind_free words (right (free word) (all_free words) each))
  where
    left : (a b : Bool) → (a && b) ≡ true → a ≡ true
    left true b is = refl
    left false b is = is

    right : (a b : Bool) → (a && b) ≡ true → b ≡ true
    right true b is = is
    right false b is = absurd (cc is)

-- ---- numbers
high_by : (test upper : Bool) (d : ℕ) → is_inner (if test then 48 + d else (if upper then 55 + d else 87 + d)) ≡ true
high_by true upper d = grind (arith, nat_tests)
high_by false true d = grind (arith, nat_tests)
high_by false false d = grind (arith, nat_tests)

char_by : (test : Bool) (d : ℕ) → is_inner (if test then 48 + d else 87 + d) ≡ true
char_by true d = grind (arith, nat_tests)
char_by false d = grind (arith, nat_tests)

free_if : (test : Bool) (a b : List ℕ) → free a ≡ true → free b ≡ true → free (if test then a else b) ≡ true
free_if true a b first second = first
free_if false a b first second = second

onto_free : (k base : ℕ) (upper : Bool) (n : ℕ) (rest : List ℕ) → free rest ≡ true → free (digits_onto k base upper n rest) ≡ true
onto_free zero base upper n rest is = is
onto_free (suc k) base upper n rest is =
    let digit : ℕ = digit_glyph upper (n % base) in
    let more : free (digit ∷ rest) ≡ true = and-both (is_inner digit) (free rest) (high_by (nat_lt (n % base) 10) upper (n % base)) is in
    free_if (n / base == 0) (digit ∷ rest) (digits_onto k base upper (n / base) (digit ∷ rest)) more (onto_free k base upper (n / base) (digit ∷ rest) more)

digits_free : (base : ℕ) (upper : Bool) (n : ℕ) → free (digits base upper n) ≡ true
unfolding digits
digits_free base upper n = onto_free 64 base upper n [] refl

pub decimal_free : (n : ℕ) → free (decimal n) ≡ true
decimal_free n = digits_free 10 false n

hex_free : (n : ℕ) → free (hex_text n) ≡ true
hex_free n = digits_free 16 false n

pub handle_free : (n : ℕ) → free (handle_text n) ≡ true
unfolding handle_text
handle_free n = hex_free n

pair_free : (n : ℕ) → free (two_digits n) ≡ true
pair_free n =
    and-both (is_inner (digit_char (n / 16))) (is_inner (digit_char (n % 16)) && true) (char_by (nat_lt (n / 16) 10) (n / 16))
    (and-both (is_inner (digit_char (n % 16))) true (char_by (nat_lt (n % 16) 10) (n % 16)) refl)

-- ---- names and addresses
named_free : (test : Bool) (name : List ℕ) (rest : Option (List ℕ)) (other : List ℕ) → free name ≡ true → free (unwrap_or rest other) ≡ true → free (unwrap_or (if test then Some name else rest) other) ≡ true
named_free true name rest other first second = first
named_free false name rest other first second = second

pub ether_free : (n : ℕ) → free (ether_type_text n) ≡ true
unfolding ether_type_text
ether_free n =
    let other : List ℕ = marked (four_digits n) in
    named_free (n == 0x0800) (codes "ip") _ other refl
    (named_free (n == 0x86DD) (codes "ipv6") _ other refl
    (named_free (n == 0x0806) (codes "arp") _ other refl
    (named_free (n == 0x8100) (codes "802.1Q") _ other refl
    (named_free (n == 0x88A8) (codes "802.1ad") None other refl
    (free_append (two_digits (n / 256)) (two_digits (n % 256)) (pair_free (n / 256)) (pair_free (n % 256)))))))

pub protocol_free : (protocol : Proto) → free (protocol_text protocol) ≡ true
protocol_free protocols.All = refl
protocol_free (protocols.Ether n) = ether_free n

ip_protocol_free : (n : ℕ) → free (ip_protocol_text n) ≡ true
unfolding ip_protocol_text
ip_protocol_free n =
    free_if (n == 6) (codes "tcp") (if n == 17 then codes "udp" else marked (two_digits n)) refl
    (free_if (n == 17) (codes "udp") (marked (two_digits n)) refl (pair_free n))

groups_free : (n : ℕ) → free (two_groups n) ≡ true
groups_free n = two_free 58 refl (hex_text (n / 65536)) (hex_text (n % 65536)) (hex_free (n / 65536)) (hex_free (n % 65536))

pub class_free : (n : ℕ) → free (class_text n) ≡ true
unfolding class_text
class_free n = groups_free n

hex_masked_free : (value mask : ℕ) → free (masked_hex_text value mask) ≡ true
unfolding masked_hex_text
hex_masked_free value mask = two_free 47 refl (marked (hex_text value)) (marked (hex_text mask)) (hex_free value) (hex_free mask)

octet_masked_free : (value mask : ℕ) → free (masked_octet_text value mask) ≡ true
unfolding masked_octet_text
octet_masked_free value mask = two_free 47 refl (decimal value) (decimal mask) (decimal_free value) (decimal_free mask)

octets_free : (n : ℕ) → free (three_octets n) ≡ true
octets_free n =
    join_free 58 refl (two_digits (n / 65536) ∷ two_digits (n / 256 % 256) ∷ two_digits (n % 256) ∷ [])
    (word_more (two_digits (n / 65536)) (two_digits (n / 256 % 256) ∷ two_digits (n % 256) ∷ []) (pair_free (n / 65536))
    (word_more (two_digits (n / 256 % 256)) (two_digits (n % 256) ∷ []) (pair_free (n / 256 % 256)) (word_more (two_digits (n % 256)) [] (pair_free (n % 256)) refl)))

mac_address_free : (n : ℕ) → free (mac_address_text n) ≡ true
mac_address_free n = two_free 58 refl (three_octets (n / 2 ^ 24)) (three_octets (n % 2 ^ 24)) (octets_free (n / 2 ^ 24)) (octets_free (n % 2 ^ 24))

mac_free : (value mask : ℕ) → free (mac_text value mask) ≡ true
unfolding mac_text
mac_free value mask =
    free_if (mask == 0xFFFF_FFFF_FFFF) (mac_address_text value) (masked_mac_text value mask) (mac_address_free value)
    (two_free 47 refl (mac_address_text value) (mac_address_text mask) (mac_address_free value) (mac_address_free mask))

dotted_pair_free : (n : ℕ) → free (two_octets n) ≡ true
dotted_pair_free n = two_free 46 refl (decimal (n / 256)) (decimal (n % 256)) (decimal_free (n / 256)) (decimal_free (n % 256))

ipv4_free : (value length : ℕ) → free (ipv4_text value length) ≡ true
unfolding ipv4_text
ipv4_free value length =
    two_free 47 refl (dotted value) (decimal length) (two_free 46 refl (two_octets (value / 65536)) (two_octets (value % 65536)) (dotted_pair_free (value / 65536)) (dotted_pair_free (value % 65536)))
    (decimal_free length)

four_free : (n : ℕ) → free (four_groups n) ≡ true
four_free n = two_free 58 refl (two_groups (n / 2 ^ 32)) (two_groups (n % 2 ^ 32)) (groups_free (n / 2 ^ 32)) (groups_free (n % 2 ^ 32))

ipv6_free : (high low length : ℕ) → free (ipv6_text high low length) ≡ true
unfolding ipv6_text
ipv6_free high low length =
    two_free 47 refl (ipv6_address_text high low) (decimal length) (two_free 58 refl (four_groups high) (four_groups low) (four_free high) (four_free low)) (decimal_free length)

-- ---- fields
name_free : (name : FieldName) → free (name_text name) ≡ true
name_free names.DstMac = refl
name_free names.SrcMac = refl
name_free names.VlanId = refl
name_free names.VlanPrio = refl
name_free names.VlanEthtype = refl
name_free names.IpProto = refl
name_free names.SrcIp = refl
name_free names.DstIp = refl
name_free names.SrcPort = refl
name_free names.DstPort = refl
name_free names.TcpFlags = refl
name_free names.CvlanId = refl
name_free names.CvlanPrio = refl
name_free names.CvlanEthtype = refl
name_free names.IpTos = refl
name_free names.IpTtl = refl

value_free : (name : FieldName) (value mask : ℕ) → free (value_text name value mask) ≡ true
value_free names.DstMac value mask = mac_free value mask
value_free names.SrcMac value mask = mac_free value mask
value_free names.VlanId value mask = decimal_free value
value_free names.VlanPrio value mask = decimal_free value
value_free names.VlanEthtype value mask = ether_free value
value_free names.IpProto value mask = ip_protocol_free value
value_free names.SrcIp value mask = ipv4_free value (prefix_length_of mask)
value_free names.DstIp value mask = ipv4_free value (prefix_length_of mask)
value_free names.SrcPort value mask = decimal_free value
value_free names.DstPort value mask = decimal_free value
value_free names.TcpFlags value mask = hex_masked_free value mask
value_free names.CvlanId value mask = decimal_free value
value_free names.CvlanPrio value mask = decimal_free value
value_free names.CvlanEthtype value mask = ether_free value
value_free names.IpTos value mask = hex_masked_free value mask
value_free names.IpTtl value mask = octet_masked_free value mask

field_free : (none : Bool) (name value : List ℕ) → free name ≡ true → free value ≡ true → all_free (if none then [] else name ∷ value ∷ []) ≡ true
field_free none name value first second = words_if none [] (name ∷ value ∷ []) refl (word_more name (value ∷ []) first (word_more value [] second refl))

named_words_free : (key mask : List ℕ) (left : List FieldName) → all_free (named_words key mask left) ≡ true
named_words_free key mask [] = refl
named_words_free key mask (name ∷ left) =
    words_append (field_words key mask name) (named_words key mask left)
    (field_free (value_by_number mask (field_number name) == 0) (name_text name) _ (name_free name) (value_free name (value_by_number key (field_number name)) (value_by_number mask (field_number name))))
    (named_words_free key mask left)

prefix_free : (key mask : List ℕ) (high : ℕ) (name : List ℕ) → free name ≡ true → all_free (prefix_words key mask high name) ≡ true
prefix_free key mask high name is =
    field_free (value_by_number mask high == 0 && value_by_number mask (high + 1) == 0) name _ is
    (ipv6_free (value_by_number key high) (value_by_number key (high + 1)) (ipv6_length_of (value_by_number mask high) (value_by_number mask (high + 1))))

pub fields_free : (key mask : List ℕ) → all_free (fields_words key mask) ≡ true
fields_free key mask =
    words_append (named_words key mask all_names) (prefixes_words key mask) (named_words_free key mask all_names)
    (words_append (prefix_words key mask 16 (codes "src_ip")) (prefix_words key mask 18 (codes "dst_ip")) (prefix_free key mask 16 (codes "src_ip") refl) (prefix_free key mask 18 (codes "dst_ip") refl))

-- ---- actions
pub hook_free : (hook : Hook) → free (hook_text hook) ≡ true
hook_free hooks.Ingress = refl
hook_free hooks.Egress = refl

pub kind_free : (kind : Kind) → free (kind_text kind) ≡ true
kind_free kinds.Gact = refl
kind_free kinds.Vlan = refl
kind_free kinds.Skbedit = refl

control_free : (control : Control) → all_free (control_words control) ≡ true
control_free controls.Accept = refl
control_free controls.Shot = refl
control_free controls.Unspec = refl
control_free controls.Pipe = refl
control_free controls.Reclassify = refl
control_free (controls.Jump place) = word_more (decimal place) [] (decimal_free place) refl
control_free (controls.Goto chain) = word_more (decimal chain) [] (decimal_free chain) refl

pub number_free : (name : List ℕ) (number : Option ℕ) → free name ≡ true → all_free (number_words name number) ≡ true
number_free name None is = refl
number_free name (Some number) is = word_more name (decimal number ∷ []) is (word_more (decimal number) [] (decimal_free number) refl)

tag_free : (tpid id : ℕ) → all_free (tag_words tpid id) ≡ true
tag_free tpid id = word_more (ether_type_text tpid) (codes "id" ∷ decimal id ∷ []) (ether_free tpid) (word_more (decimal id) [] (decimal_free id) refl)

op_free : (op : VlanOp) → all_free (op_words op) ≡ true
op_free (ops.Push tpid id priority) = words_append (tag_words tpid id) (number_words (codes "priority") (Some priority)) (tag_free tpid id) (number_free (codes "priority") (Some priority) refl)
op_free ops.Pop = refl
op_free (ops.Modify tpid id priority) = words_append (tag_words tpid id) (number_words (codes "priority") priority) (tag_free tpid id) (number_free (codes "priority") priority refl)

class_words_free : (priority : Option ℕ) → all_free (class_words priority) ≡ true
class_words_free None = refl
class_words_free (Some class) = word_more (class_text class) [] (class_free class) refl

marks_free : (priority mark queue : Option ℕ) → all_free (mark_words priority mark queue) ≡ true
marks_free priority mark queue =
    words_append (number_words (codes "queue_mapping") queue) (class_words priority ++ number_words (codes "mark") mark) (number_free (codes "queue_mapping") queue refl)
    (words_append (class_words priority) (number_words (codes "mark") mark) (class_words_free priority) (number_free (codes "mark") mark refl))

pub params_free : (given : Params) → all_free (params_words given) ≡ true
params_free (params.Gact control) = control_free control
params_free (params.Vlan op control) = words_append (op_words op) (control_words control) (op_free op) (control_free control)
params_free (params.Skbedit priority mark queue control) = words_append (mark_words priority mark queue) (control_words control) (marks_free priority mark queue) (control_free control)
