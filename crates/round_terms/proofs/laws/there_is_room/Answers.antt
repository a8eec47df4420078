use Rattle.round_terms.proofs.Standing.{short}
use Rattle.round_terms.proofs.laws.there_is_room.Goals as goal

pub returns : goal.returns
returns c = λ files controls before journal events places control file place text line next under named. short (record { under = under; named = named }) control file place text line next
