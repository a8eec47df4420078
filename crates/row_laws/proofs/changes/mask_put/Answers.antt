use Rattle.row_laws.proofs.OfChanges.MaskPut.{mask_put_rows, new_mask_whole}
use Rattle.row_laws.proofs.changes.mask_put.Goals as goal

pub returns-clause-rows : goal.returns-clause-rows
returns-clause-rows c = mask_put_rows

pub returns-clause-whole : goal.returns-clause-whole
returns-clause-whole c = new_mask_whole
