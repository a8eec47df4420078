use Rattle.row_laws.proofs.OfLookups.Handles.{handle_found, handle_missing, row_found, filter_missing, no_filter}
use Rattle.row_laws.proofs.OfLookups.FreeHandle.{free_found, free_first}
use Rattle.row_laws.proofs.lookups.filter_of_rows.Goals as goal

pub returns-clause-any : goal.returns-clause-any
returns-clause-any c = handle_found

pub returns-clause-none : goal.returns-clause-none
returns-clause-none c = handle_missing

pub returns-clause-row : goal.returns-clause-row
returns-clause-row c = row_found

pub returns-clause-missing : goal.returns-clause-missing
returns-clause-missing c = filter_missing

pub returns-clause-no_row : goal.returns-clause-no_row
returns-clause-no_row c = no_filter

pub returns-clause-free : goal.returns-clause-free
returns-clause-free c = free_found

pub returns-clause-first : goal.returns-clause-first
returns-clause-first c = free_first
