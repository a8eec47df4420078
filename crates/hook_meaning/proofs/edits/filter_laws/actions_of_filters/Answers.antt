use Rattle.hook_meaning.proofs.OfEdits.OfFilters.{params_kept, new_ones_come, deletion_makes_none}
use Rattle.hook_meaning.proofs.edits.filter_laws.actions_of_filters.Goals as goal

pub returns-clause-keeps : goal.returns-clause-keeps
returns-clause-keeps c = params_kept

pub returns-clause-new_ones : goal.returns-clause-new_ones
returns-clause-new_ones c = new_ones_come

pub returns-clause-deleted : goal.returns-clause-deleted
returns-clause-deleted c = deletion_makes_none
