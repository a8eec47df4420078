use Rattle.walk_fate_laws.proofs.Meeting.{way_is_met}
use Rattle.walk_fate_laws.proofs.laws.ways_are_met.Goals as goal

pub returns : goal.returns
returns c = way_is_met
