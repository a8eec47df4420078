use Rattle.walk_fate_laws.proofs.Unchanged.{plain_alone}
use Rattle.walk_fate_laws.proofs.laws.no_change_is_plain.Goals as goal

pub returns : goal.returns
returns c = λ states s before ceiling hook bytes fate. plain_alone states s before ceiling hook bytes fate
