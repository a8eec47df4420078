use Rattle.shared_hook.proofs.OfDeskEdits.Passing.{place_stays, here_stays}
use Rattle.shared_hook.proofs.desk_edits.laws.places_stay.Goals as goal

pub returns-clause-placed : goal.returns-clause-placed
returns-clause-placed c = place_stays

pub returns-clause-here : goal.returns-clause-here
returns-clause-here c = here_stays
