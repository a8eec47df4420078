use Rattle.row_laws.proofs.OfChanges.Whole.{put_whole}
use Rattle.row_laws.proofs.OfChanges.Put.{put_rows}
use Rattle.row_laws.proofs.changes.filter_put.Goals as goal

pub returns-clause-rows : goal.returns-clause-rows
returns-clause-rows c = put_rows

pub returns-clause-whole : goal.returns-clause-whole
returns-clause-whole c = put_whole
