use Rattle.state_past_laws.proofs.OfChanges.Stood.{words_come, come_serial, words_go, words_left, words_stay}
use Rattle.state_past_laws.proofs.changes.standing.masks_go_on.Goals as goal

pub returns-clause-comes : goal.returns-clause-comes
returns-clause-comes c = λ s t going come sound after go. words_come s.rows t.rows going come go sound.together after.together

pub returns-clause-found : goal.returns-clause-found
returns-clause-found c = λ s t going come sound after go. come_serial s.rows t.rows going come go sound.together after.together

pub returns-clause-goes : goal.returns-clause-goes
returns-clause-goes c = λ s t going come sound after go. words_go s.rows t.rows going come go sound.together after.together

pub returns-clause-left : goal.returns-clause-left
returns-clause-left c = λ s t going come sound after go. words_left s.rows t.rows going come go sound.together after.together

pub returns-clause-stays : goal.returns-clause-stays
returns-clause-stays c = λ s t going come sound after go. words_stay s.rows t.rows going come go sound.together after.together
