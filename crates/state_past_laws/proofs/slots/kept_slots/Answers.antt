use Rattle.state_past_laws.proofs.Searched.{kept}
use Rattle.state_past_laws.proofs.slots.kept_slots.Goals as goal

pub returns : goal.returns
returns c = kept
