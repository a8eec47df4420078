use Rattle.edit_effects.proofs.OfEffects.Added.{added_to_old, added_to_new}
use Rattle.edit_effects.proofs.laws.filter_added.Goals as goal

pub returns-clause-old_mask : goal.returns-clause-old_mask
returns-clause-old_mask c = added_to_old

pub returns-clause-new_mask : goal.returns-clause-new_mask
returns-clause-new_mask c = added_to_new
