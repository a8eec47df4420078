use Rattle.hook_meaning.proofs.OfVisits.Names.{mask_longer, action_longer}
use Rattle.hook_meaning.proofs.visits.laws.names_stay_known.Goals as goal

pub returns-clause-masks : goal.returns-clause-masks
returns-clause-masks c = mask_longer

pub returns-clause-actions : goal.returns-clause-actions
returns-clause-actions c = action_longer
