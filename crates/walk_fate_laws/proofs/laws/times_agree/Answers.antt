use Rattle.walk_fate_laws.proofs.Timing.{whens_agree, kinds_agree}
use Rattle.walk_fate_laws.proofs.laws.times_agree.Goals as goal

pub returns : goal.returns
returns c = λ answers others before ceiling hook bytes order told more same. (
  whens_agree answers others before ceiling hook bytes order same told,
  kinds_agree answers others before ceiling hook bytes order same told more,
)
