use Rattle.batch_run.proofs.Outcomes.{some_ran, one_ran}
use Rattle.batch_run.proofs.laws.one_outcome.Goals as goal

pub returns-clause-some : goal.returns-clause-some
returns-clause-some c = some_ran

pub returns-clause-one : goal.returns-clause-one
returns-clause-one c = one_ran
