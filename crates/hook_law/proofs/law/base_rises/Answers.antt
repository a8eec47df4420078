use Rattle.hook_law.proofs.Pushing.{keeps_rises}
use Rattle.hook_law.proofs.law.base_rises.Goals as goal

pub returns : goal.returns
returns g c = keeps_rises g.T.Terms.meaning g.T.Terms.codec
