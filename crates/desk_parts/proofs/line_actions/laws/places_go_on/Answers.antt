use Rattle.desk_parts.proofs.OfLineActions.Lasting.{here_goes, place_goes}
use Rattle.desk_parts.proofs.line_actions.laws.places_go_on.Goals as goal

pub returns-clause-here : goal.returns-clause-here
returns-clause-here c = λ placed h more s none here. here_goes placed h more none s here

pub returns-clause-placed : goal.returns-clause-placed
returns-clause-placed c = λ placed h more action none at. place_goes placed h more none action at
