-- The fields of a key, and where they stand in it.
use Rattle.std.specs.Prelude.{ℕ, Bool, ◌+◌, ◌<◌, ◌≤◌, ◌==◌, ◌&&◌, nat_le, nat_lt, List, [], ◌∷◌, Option}
use Rattle.std.specs.Prelude.{position, slice_index_or, codes}
use Rattle.std.specs.Str.{bytes_eq}
use Rattle.flow_fields.specs.declared.table.FieldRow.{FieldRow}
use Rattle.flow_fields.specs.declared.table.Form.{Form}
use Rattle.flow_fields.specs.declared.table.Form.TheVariants as forms

-- a field: its name, the bits of a key that it has (the width lowest of a word, after a shift to the right),
-- and how its value is written
pub record Field : Type 0 where
  pub name : List ℕ
  pub word : ℕ
  pub shift : ℕ
  pub width : ℕ
  pub form : Form

-- the field that a row of the program's table describes
abbrev pub field_of_row : FieldRow → Field
field_of_row row = record {
  name = row.name.now;
  word = row.word;
  shift = row.shift;
  width = row.width;
  form = row.form;
}

-- The fields, in the order of their numbers. The words and shifts are this project's own; the names are those
-- of flower keys in tc-flower(8), or made alike, and the widths are those of the header fields: IEEE 802.3
-- clause 3.2 (addresses), IEEE 802.1Q clause 9 (tags), RFC 791 section 3.1 (IPv4), RFC 8200 section 3 (IPv6,
-- whose addresses are two fields each), RFC 768 and RFC 9293 section 3.1 (ports, and the twelve low bits of
-- the word that has the flags).
unfoldable pub fields : List Field
fields =
    record { name = codes "dst_mac"; word = 0; shift = 0; width = 48; form = forms.Mac }
    ∷ record { name = codes "src_mac"; word = 1; shift = 0; width = 48; form = forms.Mac }
    ∷ record { name = codes "vlan_id"; word = 2; shift = 0; width = 12; form = forms.Number }
    ∷ record { name = codes "vlan_prio"; word = 2; shift = 16; width = 3; form = forms.Number }
    ∷ record { name = codes "vlan_ethtype"; word = 2; shift = 32; width = 16; form = forms.EtherName }
    ∷ record { name = codes "ip_proto"; word = 3; shift = 0; width = 8; form = forms.ProtoName }
    ∷ record { name = codes "src_ip"; word = 4; shift = 0; width = 32; form = forms.Ipv4 }
    ∷ record { name = codes "dst_ip"; word = 5; shift = 0; width = 32; form = forms.Ipv4 }
    ∷ record { name = codes "src_port"; word = 6; shift = 0; width = 16; form = forms.Number }
    ∷ record { name = codes "dst_port"; word = 6; shift = 16; width = 16; form = forms.Number }
    ∷ record { name = codes "tcp_flags"; word = 7; shift = 0; width = 12; form = forms.Flags }
    ∷ record { name = codes "cvlan_id"; word = 8; shift = 0; width = 12; form = forms.Number }
    ∷ record { name = codes "cvlan_prio"; word = 8; shift = 16; width = 3; form = forms.Number }
    ∷ record { name = codes "cvlan_ethtype"; word = 8; shift = 32; width = 16; form = forms.EtherName }
    ∷ record { name = codes "ip_tos"; word = 9; shift = 0; width = 8; form = forms.Flags }
    ∷ record { name = codes "ip_ttl"; word = 9; shift = 8; width = 8; form = forms.Number }
    ∷ record { name = codes "src_ip6_high"; word = 10; shift = 0; width = 64; form = forms.Ipv6 }
    ∷ record { name = codes "src_ip6_low"; word = 11; shift = 0; width = 64; form = forms.Ipv6 }
    ∷ record { name = codes "dst_ip6_high"; word = 12; shift = 0; width = 64; form = forms.Ipv6 }
    ∷ record { name = codes "dst_ip6_low"; word = 13; shift = 0; width = 64; form = forms.Ipv6 }
    ∷ []

-- what stands at a number of no field
unfoldable pub no_field : Field
no_field = record { name = []; word = 0; shift = 0; width = 1; form = forms.Number }

-- the field of that number
abbrev pub field_at : ℕ → Field
field_at number = slice_index_or fields number no_field

abbrev pub has_name : List ℕ → Field → Bool
has_name name field = bytes_eq field.name name

-- the number of the field with that name
abbrev pub field_named : List ℕ → Option ℕ
field_named name = position (has_name name) fields

-- a field has some bits, and lies within one of fourteen words of 64 bits
pub record IsPlaced (field : Field) : Type 0 where
  pub some : 1 ≤ field.width
  pub fits : field.shift + field.width ≤ 64
  pub word : field.word < 14

-- a field has that bit of that word
abbrev pub has_bit : ℕ → ℕ → Field → Bool
has_bit word bit field = field.word == word
    && (nat_le field.shift bit && nat_lt bit (field.shift + field.width))
