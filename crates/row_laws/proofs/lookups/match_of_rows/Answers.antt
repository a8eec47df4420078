use Rattle.row_laws.proofs.OfLookups.Matches.{match_found, match_missing, match_nowhere}
use Rattle.row_laws.proofs.lookups.match_of_rows.Goals as goal

pub returns-clause-some : goal.returns-clause-some
returns-clause-some c = match_found

pub returns-clause-none : goal.returns-clause-none
returns-clause-none c = match_missing

pub returns-clause-no_table : goal.returns-clause-no_table
returns-clause-no_table c = match_nowhere
