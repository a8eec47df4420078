use Rattle.state_past_laws.proofs.OfChanges.Going as going
use Rattle.state_past_laws.proofs.changes.rows.rows_go_on.Goals as goal

pub returns : goal.returns
returns c = λ s t edit done sound e. let it = going.rows_go_on s t edit done sound e in (it.0, it.1, it.2)
