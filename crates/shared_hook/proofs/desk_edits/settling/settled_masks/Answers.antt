use Rattle.shared_hook.proofs.OfDeskEdits.Settled.{desk_settled}
use Rattle.shared_hook.proofs.desk_edits.settling.settled_masks.Goals as goal

pub returns : goal.returns
returns c = λ parts mask slot kept u stands fits. desk_settled parts mask slot u kept stands fits
