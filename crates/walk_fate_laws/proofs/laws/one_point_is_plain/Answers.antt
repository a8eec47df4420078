use Rattle.walk_fate_laws.proofs.Staying.{plain_there}
use Rattle.walk_fate_laws.proofs.laws.one_point_is_plain.Goals as goal

pub returns : goal.returns
returns c = λ answers s point hook bytes sound same. plain_there answers point hook s same bytes sound
