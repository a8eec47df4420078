use Rattle.std.proofs.Common.{refl, ap, arith}
use Rattle.tc_batch.specs.declared.field_name.FieldName.TheVariants as names
use Rattle.tc_batch.proofs.FieldWidths.{width_of}
use Rattle.tc_print.proofs.FieldPlaces.{below, below_either}
use Rattle.tc_print.proofs.fields.push_value.Goals as goal

pub push_mac_word-requires-clause-value : goal.push_mac_word-requires-clause-value
push_mac_word-requires-clause-value c =
    below_either c.args.name names.DstMac names.SrcMac 48 c.args.value refl refl
    c.in-DstMac.is c.requires.value

pub push_mac_word-requires-clause-mask : goal.push_mac_word-requires-clause-mask
push_mac_word-requires-clause-mask c =
    below_either c.args.name names.DstMac names.SrcMac 48 c.args.mask refl refl
    c.in-DstMac.is c.requires.mask

pub overflow_cast-value : goal.overflow_cast-value
overflow_cast-value c =
    let low = below_either c.args.name names.VlanEthtype names.CvlanEthtype 16 c.args.value refl refl
    c.in-VlanEthtype.is c.requires.value in
    omega (arith, low)

pub overflow_cast-value-in-IpProto : goal.overflow_cast-value-in-IpProto
overflow_cast-value-in-IpProto c =
    let low = below c.args.name 8 c.args.value (ap width_of c.in-IpProto.is) c.requires.value in
    omega (arith, low)

pub overflow_cast-value-in-SrcIp : goal.overflow_cast-value-in-SrcIp
overflow_cast-value-in-SrcIp c =
    let low = below_either c.args.name names.SrcIp names.DstIp 32 c.args.value refl refl
    c.in-SrcIp.is c.requires.value in
    omega (arith, low)

pub overflow_cast-mask : goal.overflow_cast-mask
overflow_cast-mask c =
    let low = below_either c.args.name names.SrcIp names.DstIp 32 c.args.mask refl refl
    c.in-SrcIp.is c.requires.mask in
    omega (arith, low)
