use Rattle.state_past_laws.proofs.Taken.{taken}
use Rattle.state_past_laws.proofs.slots.taken_slots.Goals as goal

pub returns : goal.returns
returns c = taken
