use Rattle.desk_needs.proofs.OfEditNeeds.Behind.{later_is}
use Rattle.desk_needs.proofs.edit_needs.laws.needs_of_later_filters.Goals as goal

pub returns : goal.returns
returns c = later_is
