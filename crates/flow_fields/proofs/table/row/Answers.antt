use Rattle.flow_fields.proofs.Places.{placed}
use Rattle.flow_fields.proofs.table.row.Goals as goal

pub returns-clause-placed : goal.returns-clause-placed
returns-clause-placed c = placed c.args.field c.requires
