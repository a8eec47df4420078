use Rattle.row_laws.proofs.OfChanges.Sweeping.{removed_whole}
use Rattle.row_laws.proofs.OfChanges.FilterTaken.{filter_rows_taken, filter_rows_gone}
use Rattle.row_laws.proofs.changes.filter_taken.Goals as goal

pub returns-clause-rows : goal.returns-clause-rows
returns-clause-rows c = filter_rows_taken

pub returns-clause-gone : goal.returns-clause-gone
returns-clause-gone c = filter_rows_gone

pub returns-clause-whole : goal.returns-clause-whole
returns-clause-whole c = removed_whole
