-- What stands behind `flower`: the fields of a filter with their masks, and the edit that comes of them.
use Rattle.std.specs.Prelude.{ℕ, ◌+◌, ◌/◌, ◌%◌, ◌^◌, Bool, true, false, ◌||◌, not, ◌==◌, List, [], ◌∷◌}
use Rattle.std.specs.Prelude.{slice_index_or, slice_set, is_some, position, Option, if◌then◌else◌}
use Rattle.std.specs.Option.{option_map, unwrap_or}
use Rattle.flow_fields.specs.Table.{field_at}
use Rattle.flow_fields.specs.Values.{value_in, with_value}
use Rattle.tc_words.specs.Ipv6Addresses.{ipv6_of, ipv6_mask}
use Rattle.tc_words.specs.declared.ipv6_addresses.Ipv6Word.{Ipv6Word}
use Rattle.tc_base.specs.declared.hook.Hook.{Hook}
use Rattle.tc_base.specs.declared.hook.Proto.TheVariants.{All}
use Rattle.filter_state.specs.declared.action_line.ActionLine.{ActionLine}
use Rattle.filter_state.specs.declared.edit.FilterLine.{FilterLine}
use Rattle.filter_state.specs.declared.edit.Edit.{Edit}
use Rattle.filter_state.specs.declared.edit.Edit.TheVariants as edits
use Rattle.tc_batch.specs.declared.field_name.FieldName.{FieldName}
use Rattle.tc_batch.specs.declared.field_name.FieldName.TheVariants as names
use Rattle.tc_batch.specs.declared.fields.Fields.{Fields}
use Rattle.tc_batch.specs.declared.options.Options.{Options}
use Rattle.tc_batch.specs.declared.draft.Head.{Head}
use Rattle.tc_batch.specs.FieldNames.{field_name, field_number, field_value}
use Rattle.tc_batch.specs.Options.{set_once}

-- sixteen names that didn't stand, and a key and a mask of fourteen zeros
abbrev pub no_names : List Bool
no_names =
    false ∷ false ∷ false ∷ false ∷ false ∷ false ∷ false ∷ false
    ∷ false ∷ false ∷ false ∷ false ∷ false ∷ false ∷ false ∷ false ∷ []

abbrev pub no_words : List ℕ
no_words = 0 ∷ 0 ∷ 0 ∷ 0 ∷ 0 ∷ 0 ∷ 0 ∷ 0 ∷ 0 ∷ 0 ∷ 0 ∷ 0 ∷ 0 ∷ 0 ∷ []

abbrev pub no_fields : Fields
no_fields = record { given = no_names; key = record { words = no_words }; mask = record { words = no_words } }

-- the protocol over IP that is asked for, or 0
abbrev pub protocol_in : Fields → ℕ
protocol_in fields = value_in (field_at 5) fields.key.words

-- ports stand behind TCP (6) and UDP (17), and flags behind TCP, so their words stand behind ip_proto
abbrev pub has_header : Fields → FieldName → Bool
has_header fields names.SrcPort = protocol_in fields == 6 || protocol_in fields == 17
has_header fields names.DstPort = protocol_in fields == 6 || protocol_in fields == 17
has_header fields names.TcpFlags = protocol_in fields == 6
has_header fields name = true

-- the word stood before, or may not stand here
abbrev pub refuses_field : Fields → FieldName → Bool
refuses_field fields name = slice_index_or fields.given (field_number name) false
    || not (has_header fields name)

-- the name has stood
abbrev pub named : Fields → FieldName → Fields
named fields name = record fields { given = slice_set fields.given (field_number name) true }

-- a value under its mask, and the mask, put into a field. A mask of 0 leaves no trace.
abbrev pub with_field_value : Fields → ℕ → ℕ × ℕ → Fields
with_field_value fields field (value, mask) = record {
  given = fields.given;
  key = record { words = with_value fields.key.words field value };
  mask = record { words = with_value fields.mask.words field mask };
}

-- a field and the word of its value
abbrev pub with_one : Fields → FieldName → List ℕ → Option Fields
with_one fields name word =
    option_map (with_field_value (named fields name) (field_number name)) (field_value name word)

-- an IPv6 prefix in the two fields of its halves
abbrev pub with_prefix : Fields → ℕ → Ipv6Word → Fields
with_prefix fields high word =
    with_field_value (with_field_value fields high (word.high, ipv6_mask word.length / 2 ^ 64)) (high + 1)
    (word.low, ipv6_mask word.length % 2 ^ 64)

-- an IPv6 address and its word
abbrev pub with_ipv6 : Fields → FieldName → ℕ → List ℕ → Option Fields
with_ipv6 fields name high word = option_map (with_prefix (named fields name) high) (ipv6_of word)

abbrev pub has_colon : List ℕ → Bool
has_colon word = is_some (position (λ b. b == 58) word)

-- an address with a colon is one of IPv6, and has two fields of its own
abbrev pub with_field : Fields → FieldName → List ℕ → Option Fields
with_field fields names.SrcIp word = if has_colon word then with_ipv6 fields names.SrcIp 16 word
    else with_one fields names.SrcIp word
with_field fields names.DstIp word = if has_colon word then with_ipv6 fields names.DstIp 18 word
    else with_one fields names.DstIp word
with_field fields name word = with_one fields name word

-- the same for a line that has come so far
abbrev pub head_refuses : Head → FieldName → Bool
head_refuses head name = refuses_field head.fields name

abbrev pub head_takes : Head → FieldName → List ℕ → Option Head
head_takes head name word =
    option_map (λ fields. record head { fields = fields }) (with_field head.fields name word)

-- a field and its value
abbrev pub field_setting : Head → List ℕ → List ℕ → Option Head
field_setting head name value = set_once head_refuses head_takes head value (field_name name)

-- a filter line up to `flower`
abbrev pub filter_head : Bool → Hook → Options → Head
filter_head replaces hook options = record {
  replaces = replaces;
  hook = hook;
  options = options;
  fields = no_fields;
}

-- a line without protocol means all of them, and a chain that isn't given is 0
abbrev pub filter_line : Head → List ActionLine → FilterLine
filter_line head actions = record {
  hook = head.hook;
  protocol = unwrap_or head.options.protocol All;
  chain = unwrap_or head.options.chain 0;
  pref = head.options.pref;
  handle = head.options.handle;
  mask = head.fields.mask;
  key = head.fields.key;
  actions = actions;
}

-- the edit of a filter line
abbrev pub filter_edit : Head → List ActionLine → Edit
filter_edit head actions = if head.replaces then edits.FilterReplace (filter_line head actions)
    else edits.FilterAdd (filter_line head actions)
