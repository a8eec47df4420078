use Rattle.shared_hook.proofs.OfDeskEdits.Passing.{may_go}
use Rattle.shared_hook.proofs.desk_edits.laws.gone_may_go.Goals as goal

pub returns : goal.returns
returns c = may_go
