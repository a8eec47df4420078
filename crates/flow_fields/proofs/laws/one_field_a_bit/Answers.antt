use Rattle.flow_fields.proofs.Places.{placed, one_field_a_bit, named}
use Rattle.flow_fields.proofs.laws.one_field_a_bit.Goals as goal

pub returns-clause-placed : goal.returns-clause-placed
returns-clause-placed c = placed

pub returns-clause-apart : goal.returns-clause-apart
returns-clause-apart c = one_field_a_bit

pub returns-clause-named : goal.returns-clause-named
returns-clause-named c = named
