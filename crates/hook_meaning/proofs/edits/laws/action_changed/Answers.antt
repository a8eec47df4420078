use Rattle.hook_meaning.proofs.OfEdits.Made.{changed_after}
use Rattle.hook_meaning.proofs.edits.laws.action_changed.Goals as goal

pub returns : goal.returns
returns c = changed_after
