use Rattle.state_past_laws.proofs.OfChanges.Stood.{slot_comes, slot_goes, slot_stays}
use Rattle.state_past_laws.proofs.changes.standing.slots_go_on.Goals as goal

pub returns-clause-comes : goal.returns-clause-comes
returns-clause-comes c = λ s t going come sound after go. slot_comes s.rows t.rows going come go sound.together after.together

pub returns-clause-goes : goal.returns-clause-goes
returns-clause-goes c = λ s t going come sound after go. slot_goes s.rows t.rows going come go sound.together after.together

pub returns-clause-stays : goal.returns-clause-stays
returns-clause-stays c = λ s t going come sound after go. slot_stays s.rows t.rows going come go sound.together after.together
