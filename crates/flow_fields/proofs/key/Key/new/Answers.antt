use Rattle.flow_fields.proofs.Puts.{zero_values, zero_tidy}
use Rattle.flow_fields.proofs.key.Key.new.Goals as goal

pub returns-clause-values : goal.returns-clause-values
returns-clause-values g c = zero_values g.row.N

pub returns-clause-tidy : goal.returns-clause-tidy
returns-clause-tidy g c = zero_tidy g.row.N
