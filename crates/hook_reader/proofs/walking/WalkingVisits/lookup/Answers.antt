use Rattle.std.proofs.Common.{refl}
use Rattle.hook_reader.proofs.walking.WalkingVisits.lookup.Goals as goal

pub returns-clause-told : goal.returns-clause-told
returns-clause-told c = (c.visit_mask.ensures.told c.args._table, refl, refl)
