use Rattle.change_fate_laws.proofs.OneChange.{some_of_changes}
use Rattle.change_fate_laws.proofs.laws.some_change.Goals as goal

pub returns : goal.returns
returns c = some_of_changes
