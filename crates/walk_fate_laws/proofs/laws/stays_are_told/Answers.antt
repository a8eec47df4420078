use Rattle.walk_fate_laws.proofs.Staying.{stay_is_told}
use Rattle.walk_fate_laws.proofs.laws.stays_are_told.Goals as goal

pub returns : goal.returns
returns c = stay_is_told
