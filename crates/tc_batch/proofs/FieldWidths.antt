-- How wide the fields are that a filter line can name.
use Rattle.std.specs.Prelude.{◌≡◌, ℕ, refl}
use Rattle.flow_fields.specs.Table.{fields, field_at}
use Rattle.tc_batch.specs.declared.field_name.FieldName.{FieldName}
use Rattle.tc_batch.specs.declared.field_name.FieldName.TheVariants as names
use Rattle.tc_batch.specs.FieldNames.{field_number}

-- the bits of a field
abbrev pub width_of : FieldName → ℕ
width_of names.DstMac = 48
width_of names.SrcMac = 48
width_of names.VlanId = 12
width_of names.VlanPrio = 3
width_of names.VlanEthtype = 16
width_of names.IpProto = 8
width_of names.SrcIp = 32
width_of names.DstIp = 32
width_of names.SrcPort = 16
width_of names.DstPort = 16
width_of names.TcpFlags = 12
width_of names.CvlanId = 12
width_of names.CvlanPrio = 3
width_of names.CvlanEthtype = 16
width_of names.IpTos = 8
width_of names.IpTtl = 8

pub width_is : (name : FieldName) → width_of name ≡ (field_at (field_number name)).width
unfolding fields
width_is names.DstMac = refl
width_is names.SrcMac = refl
width_is names.VlanId = refl
width_is names.VlanPrio = refl
width_is names.VlanEthtype = refl
width_is names.IpProto = refl
width_is names.SrcIp = refl
width_is names.DstIp = refl
width_is names.SrcPort = refl
width_is names.DstPort = refl
width_is names.TcpFlags = refl
width_is names.CvlanId = refl
width_is names.CvlanPrio = refl
width_is names.CvlanEthtype = refl
width_is names.IpTos = refl
width_is names.IpTtl = refl
