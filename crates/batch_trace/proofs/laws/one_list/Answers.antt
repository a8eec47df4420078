use Rattle.batch_trace.proofs.OneList.{some_list, only_list}
use Rattle.batch_trace.proofs.laws.one_list.Goals as goal

pub returns-clause-some : goal.returns-clause-some
returns-clause-some c = some_list

pub returns-clause-one : goal.returns-clause-one
returns-clause-one c = only_list
