use Rattle.lawful_runs.proofs.Walks.{walk_over, plain_at, plain_between}
use Rattle.lawful_runs.proofs.laws.walks_over_one_journal.Goals as goal

pub returns-clause-over : goal.returns-clause-over
returns-clause-over c = λ journal floor ceiling arrival outcome it. (it.walk, it.recorded, walk_over journal floor ceiling arrival outcome it)

pub returns-clause-plain : goal.returns-clause-plain
returns-clause-plain c = plain_between

pub returns-clause-equal : goal.returns-clause-equal
returns-clause-equal c = plain_at
