use Rattle.row_laws.proofs.OfLookups.Masks.{mask_found, mask_some, mask_missing, masks_counted}
use Rattle.row_laws.proofs.lookups.mask_of_rows.Goals as goal

pub returns-clause-serial : goal.returns-clause-serial
returns-clause-serial c = mask_found

pub returns-clause-some : goal.returns-clause-some
returns-clause-some c = mask_some

pub returns-clause-none : goal.returns-clause-none
returns-clause-none c = mask_missing

pub returns-clause-count : goal.returns-clause-count
returns-clause-count c = masks_counted
