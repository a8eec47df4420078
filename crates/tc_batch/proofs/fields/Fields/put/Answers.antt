use Rattle.std.proofs.Common.{arith}
use Rattle.flow_fields.proofs.Places.{placed}
use Rattle.tc_batch.proofs.fields.Fields.put.Goals as goal

pub set-requires : goal.set-requires
set-requires c = (omega arith, (c.requires.field, ((placed c.args.field c.requires.field).word, c.requires.value)))

pub set-requires-2 : goal.set-requires-2
set-requires-2 c = (omega arith, (c.requires.field, ((placed c.args.field c.requires.field).word, c.requires.mask)))
