use Rattle.hook_meaning.proofs.OfVisits.Names.{one_slot}
use Rattle.hook_meaning.proofs.visits.laws.one_slot_a_mask.Goals as goal

pub returns : goal.returns
returns c = one_slot
