use Rattle.hook_law.proofs.Pushing.{left_alone}
use Rattle.hook_law.proofs.law.what_left.Goals as goal

pub returns : goal.returns
returns g c = left_alone g.T.Terms.meaning g.T.Terms.codec
