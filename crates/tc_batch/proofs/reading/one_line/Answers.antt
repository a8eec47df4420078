use Rattle.tc_batch.proofs.Runs.{one_edit, no_fault, answered}
use Rattle.tc_batch.proofs.reading.one_line.Goals as goal

pub returns-clause-edit : goal.returns-clause-edit
returns-clause-edit c = one_edit

pub returns-clause-no_fault : goal.returns-clause-no_fault
returns-clause-no_fault c = no_fault

pub returns-clause-some : goal.returns-clause-some
returns-clause-some c = answered
