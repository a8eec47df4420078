use Rattle.walk_fate_laws.proofs.Changing.{at_change}
use Rattle.walk_fate_laws.proofs.games.branches_are_changes.Goals as goal

pub returns : goal.returns
returns c = λ start g exact ceiling low question branch there.
    at_change g ceiling exact low question branch there
