use Rattle.hook_meaning.proofs.OfVisits.Actions.{action_answered}
use Rattle.hook_meaning.proofs.visits.laws.actions_answer.Goals as goal

pub returns : goal.returns
returns c = action_answered
