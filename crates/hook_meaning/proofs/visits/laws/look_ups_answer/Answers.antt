use Rattle.std.proofs.Common.{true, refl}
use Rattle.hook_meaning.proofs.OfVisits.Looks.{look_answered, mask_known, actions_known}
use Rattle.hook_meaning.proofs.visits.laws.look_ups_answer.Goals as goal

pub returns-clause-answer : goal.returns-clause-answer
returns-clause-answer c = λ h b floor slot serial table key found actions point loads keeps known long l.
    look_answered h b floor slot serial known key found actions point loads l table keeps long

pub returns-clause-mask : goal.returns-clause-mask
returns-clause-mask c = λ h b floor slot serial key found actions point loads known l. mask_known h b floor slot serial known key found actions point loads l

pub returns-clause-actions : goal.returns-clause-actions
returns-clause-actions c = λ h b floor slot serial key actions point loads keeps known l.
    actions_known h b floor slot serial known key true actions point loads l keeps refl
