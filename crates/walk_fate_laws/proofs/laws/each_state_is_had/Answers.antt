use Rattle.walk_fate_laws.proofs.Rounding.{state_is_had}
use Rattle.walk_fate_laws.proofs.laws.each_state_is_had.Goals as goal

pub returns : goal.returns
returns c = λ states before ceiling at hook bytes. state_is_had states ceiling hook before at bytes
