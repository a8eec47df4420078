use Rattle.flow_fields.proofs.Puts.{value_at}
use Rattle.flow_fields.proofs.laws.values_are_fields.Goals as goal

pub returns : goal.returns
returns c = λ words i here. value_at words i 0 here
