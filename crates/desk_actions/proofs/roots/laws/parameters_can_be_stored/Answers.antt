use Rattle.desk_actions.proofs.OfRoots.Storing.{params_stored}
use Rattle.desk_actions.proofs.roots.laws.parameters_can_be_stored.Goals as goal

pub returns : goal.returns
returns c = params_stored
