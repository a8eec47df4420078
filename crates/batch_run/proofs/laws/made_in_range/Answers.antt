use Rattle.batch_run.proofs.Serials.{all_in_range}
use Rattle.batch_run.proofs.laws.made_in_range.Goals as goal

pub returns : goal.returns
returns c = all_in_range
