use Rattle.desk_actions.proofs.OfRoots.Storing.{action_reads}
use Rattle.desk_actions.proofs.roots.laws.actions_read_back.Goals as goal

pub returns : goal.returns
returns c = action_reads
