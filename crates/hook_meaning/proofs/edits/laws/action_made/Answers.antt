use Rattle.hook_meaning.proofs.OfEdits.Made.{made_after}
use Rattle.hook_meaning.proofs.edits.laws.action_made.Goals as goal

pub returns : goal.returns
returns c = made_after
