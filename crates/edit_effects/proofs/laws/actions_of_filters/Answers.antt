use Rattle.edit_effects.proofs.OfEffects.FilterActions.{filters_keep, add_loses_none, delete_makes_none}
use Rattle.edit_effects.proofs.laws.actions_of_filters.Goals as goal

pub returns-clause-kept : goal.returns-clause-kept
returns-clause-kept c = filters_keep

pub returns-clause-added : goal.returns-clause-added
returns-clause-added c = add_loses_none

pub returns-clause-deleted : goal.returns-clause-deleted
returns-clause-deleted c = delete_makes_none
