use Rattle.desk_needs.proofs.OfEditNeeds.Added.{needs_into, needs_with}
use Rattle.desk_needs.proofs.edit_needs.laws.needs_of_adds.Goals as goal

pub returns-clause-into_mask : goal.returns-clause-into_mask
returns-clause-into_mask c = needs_into

pub returns-clause-with_mask : goal.returns-clause-with_mask
returns-clause-with_mask c = λ s t y line pref handle serials sound. needs_with s t y line pref handle serials
