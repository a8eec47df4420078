use Rattle.std.proofs.Common.{refl}
use Rattle.classify_walk.proofs.still.StillVisits.lookup.Goals as goal

pub returns-clause-told : goal.returns-clause-told
returns-clause-told c = (record { kept = c.look_up.ensures.kept; answers = λ s spelled. c.look_up.ensures.told c.args._table s spelled; here = refl }, refl)
