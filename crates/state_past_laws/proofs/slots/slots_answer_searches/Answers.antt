use Rattle.state_past_laws.proofs.Searched.{slot_searched}
use Rattle.state_past_laws.proofs.slots.slots_answer_searches.Goals as goal

pub returns : goal.returns
returns c = slot_searched
