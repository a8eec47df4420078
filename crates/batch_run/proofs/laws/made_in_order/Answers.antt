use Rattle.batch_run.proofs.Serials.{all_told}
use Rattle.batch_run.proofs.laws.made_in_order.Goals as goal

pub returns : goal.returns
returns c = all_told
