use Rattle.desk_needs.proofs.OfEditNeeds.Moved.{needs_in_place, needs_of_key, needs_of_mask}
use Rattle.desk_needs.proofs.edit_needs.laws.needs_of_replaces.Goals as goal

pub returns-clause-same_key : goal.returns-clause-same_key
returns-clause-same_key c = needs_in_place

pub returns-clause-other_key : goal.returns-clause-other_key
returns-clause-other_key c = needs_of_key

pub returns-clause-other_mask : goal.returns-clause-other_mask
returns-clause-other_mask c = λ s t line done row target sound e is. needs_of_mask s t line done row sound e is target
