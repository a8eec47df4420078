use Rattle.walk_fate_laws.proofs.Meeting.{met_has_way}
use Rattle.walk_fate_laws.proofs.laws.met_has_way.Goals as goal

pub returns : goal.returns
returns c = met_has_way
