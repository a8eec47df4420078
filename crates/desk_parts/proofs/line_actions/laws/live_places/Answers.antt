use Rattle.desk_parts.proofs.OfLineActions.Lasting.{live_place}
use Rattle.desk_parts.proofs.line_actions.laws.live_places.Goals as goal

pub returns : goal.returns
returns c = live_place
