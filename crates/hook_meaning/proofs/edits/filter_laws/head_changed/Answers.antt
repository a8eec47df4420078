use Rattle.hook_meaning.proofs.OfEdits.Heading.{new_mask_after, other_key_after, other_mask_after, mask_gone_after, table_gone_after}
use Rattle.hook_meaning.proofs.edits.filter_laws.head_changed.Goals as goal

pub returns-clause-new_mask : goal.returns-clause-new_mask
returns-clause-new_mask c = new_mask_after

pub returns-clause-other_key : goal.returns-clause-other_key
returns-clause-other_key c = other_key_after

pub returns-clause-other_mask : goal.returns-clause-other_mask
returns-clause-other_mask c = other_mask_after

pub returns-clause-mask_gone : goal.returns-clause-mask_gone
returns-clause-mask_gone c = mask_gone_after

pub returns-clause-table_gone : goal.returns-clause-table_gone
returns-clause-table_gone c = table_gone_after
