use Rattle.hook_meaning.proofs.OfVisits.Heads.{head_answered, head_masks}
use Rattle.hook_meaning.proofs.visits.laws.heads_answer.Goals as goal

pub returns-clause-answer : goal.returns-clause-answer
returns-clause-answer c = λ h hook told stamp point t. head_answered h hook told stamp t point

pub returns-clause-masks : goal.returns-clause-masks
returns-clause-masks c = head_masks
