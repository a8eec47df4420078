use Rattle.hook_law.proofs.Opening.{keeps_opens}
use Rattle.hook_law.proofs.law.law_opens.Goals as goal

pub returns : goal.returns
returns g c = keeps_opens g.T.Terms.meaning g.T.Terms.codec
