use Rattle.change_fate_laws.proofs.Together.{run_together}
use Rattle.change_fate_laws.proofs.laws.fates_together.Goals as goal

pub returns : goal.returns
returns c = run_together
