use Rattle.row_laws.proofs.OfChanges.MovedWhole.{moved_out_whole}
use Rattle.row_laws.proofs.OfChanges.Moved.{moved_out_rows}
use Rattle.row_laws.proofs.changes.filter_moved_out.Goals as goal

pub returns-clause-rows : goal.returns-clause-rows
returns-clause-rows c = moved_out_rows

pub returns-clause-whole : goal.returns-clause-whole
returns-clause-whole c = moved_out_whole
