use Rattle.row_laws.proofs.OfLookups.Found.{rows_found, rows_missing, rows_any}
use Rattle.row_laws.proofs.lookups.table_rows.Goals as goal

pub returns-clause-some : goal.returns-clause-some
returns-clause-some c = rows_found

pub returns-clause-none : goal.returns-clause-none
returns-clause-none c = rows_missing

pub returns-clause-any : goal.returns-clause-any
returns-clause-any c = rows_any
