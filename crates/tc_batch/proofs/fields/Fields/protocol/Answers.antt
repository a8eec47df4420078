use Rattle.std.proofs.Common.{arith}
use Rattle.flow_fields.proofs.Places.{placed}
use Rattle.tc_batch.proofs.fields.Fields.protocol.Goals as goal

pub get-requires : goal.get-requires
get-requires c = (omega arith, (omega arith, (placed 5 (omega arith)).word))
