use Rattle.row_laws.proofs.OfChanges.MovedWhole.{moved_whole}
use Rattle.row_laws.proofs.OfChanges.Moved.{moved_rows}
use Rattle.row_laws.proofs.changes.filter_moved.Goals as goal

pub returns-clause-rows : goal.returns-clause-rows
returns-clause-rows c = moved_rows

pub returns-clause-whole : goal.returns-clause-whole
returns-clause-whole c = moved_whole
