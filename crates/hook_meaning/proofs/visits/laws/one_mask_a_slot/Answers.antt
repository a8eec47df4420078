use Rattle.hook_meaning.proofs.OfVisits.Names.{one_mask}
use Rattle.hook_meaning.proofs.visits.laws.one_mask_a_slot.Goals as goal

pub returns : goal.returns
returns c = one_mask
