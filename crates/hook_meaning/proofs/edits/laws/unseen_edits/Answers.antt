use Rattle.hook_meaning.proofs.OfEdits.Marking.{marks}
use Rattle.hook_meaning.proofs.edits.laws.unseen_edits.Goals as goal

pub returns : goal.returns
returns c = marks
