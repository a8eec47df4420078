use Rattle.change_fate_laws.proofs.OneChange.{one_of_changes}
use Rattle.change_fate_laws.proofs.laws.one_change.Goals as goal

pub returns : goal.returns
returns c = one_of_changes
