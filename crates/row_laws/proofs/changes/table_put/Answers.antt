use Rattle.row_laws.proofs.OfChanges.TablePut.{table_put_rows, table_put_whole}
use Rattle.row_laws.proofs.changes.table_put.Goals as goal

pub returns-clause-rows : goal.returns-clause-rows
returns-clause-rows c = table_put_rows

pub returns-clause-whole : goal.returns-clause-whole
returns-clause-whole c = table_put_whole
