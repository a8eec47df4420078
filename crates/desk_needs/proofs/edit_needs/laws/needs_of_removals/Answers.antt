use Rattle.std.proofs.Common.{refl}
use Rattle.desk_needs.proofs.OfEditNeeds.Gone.{needs_gone}
use Rattle.desk_needs.proofs.edit_needs.laws.needs_of_removals.Goals as goal

pub returns-clause-from_mask : goal.returns-clause-from_mask
returns-clause-from_mask c = λ s t hook protocol chain pref handle done row. needs_gone s hook row t protocol chain pref handle done

pub returns-clause-table : goal.returns-clause-table
returns-clause-table c = λ s t hook protocol chain pref done e. refl
