use Rattle.job_files.proofs.Exact.{one_answer, stands}
use Rattle.job_files.proofs.Numbers.{job_is_loaded}
use Rattle.job_files.proofs.law.one_loading.Goals as goal

pub returns-clause-one : goal.returns-clause-one
returns-clause-one c = one_answer

pub returns-clause-stands : goal.returns-clause-stands
returns-clause-stands c = stands

pub returns-clause-loaded : goal.returns-clause-loaded
returns-clause-loaded c = job_is_loaded
