use Rattle.change_points.proofs.Answered.{as_states}
use Rattle.change_points.proofs.laws.answers_agree.Goals as goal

pub returns-clause-tables : goal.returns-clause-tables
returns-clause-tables c = λ change at least. as_states change at least
