use Rattle.job_lines.proofs.Answered.{answered}
use Rattle.job_lines.proofs.Unique.{same_job, no_fault, one_fault}
use Rattle.job_lines.proofs.law.one_reading.Goals as goal

pub returns-clause-job : goal.returns-clause-job
returns-clause-job c = same_job

pub returns-clause-no_fault : goal.returns-clause-no_fault
returns-clause-no_fault c = no_fault

pub returns-clause-one_fault : goal.returns-clause-one_fault
returns-clause-one_fault c = one_fault

pub returns-clause-some : goal.returns-clause-some
returns-clause-some c = answered
