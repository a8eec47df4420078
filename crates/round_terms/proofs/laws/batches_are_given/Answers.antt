use Rattle.round_terms.proofs.JobFiles.{given_is, are_files}
use Rattle.round_terms.proofs.laws.batches_are_given.Goals as goal

pub returns-clause-given : goal.returns-clause-given
returns-clause-given c = given_is

pub returns-clause-files : goal.returns-clause-files
returns-clause-files c = are_files
