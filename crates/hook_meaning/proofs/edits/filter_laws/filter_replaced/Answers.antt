use Rattle.hook_meaning.proofs.OfEdits.OneMask.{swaps_after}
use Rattle.hook_meaning.proofs.edits.filter_laws.filter_replaced.Goals as goal

pub returns : goal.returns
returns c = swaps_after
