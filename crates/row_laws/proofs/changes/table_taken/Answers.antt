use Rattle.row_laws.proofs.OfChanges.Whole.{table_whole}
use Rattle.row_laws.proofs.OfChanges.TableTaken.{table_rows_taken, table_rows_gone}
use Rattle.row_laws.proofs.changes.table_taken.Goals as goal

pub returns-clause-rows : goal.returns-clause-rows
returns-clause-rows c = table_rows_taken

pub returns-clause-gone : goal.returns-clause-gone
returns-clause-gone c = table_rows_gone

pub returns-clause-whole : goal.returns-clause-whole
returns-clause-whole c = table_whole
