use Rattle.row_laws.proofs.OfChanges.Whole.{actions_whole}
use Rattle.row_laws.proofs.OfChanges.FilterTaken.{actions_rows}
use Rattle.row_laws.proofs.changes.actions_put.Goals as goal

pub returns-clause-rows : goal.returns-clause-rows
returns-clause-rows c = actions_rows

pub returns-clause-whole : goal.returns-clause-whole
returns-clause-whole c = actions_whole
