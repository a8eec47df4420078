use Rattle.std.proofs.Common.{⊎_elim}
use Rattle.edit_effects.proofs.OfEffects.Shared.{added_action, changed_in, changed_action, deleted_action}
use Rattle.edit_effects.proofs.laws.actions_alone.Goals as goal

pub returns-clause-made : goal.returns-clause-made
returns-clause-made c = λ s t line index serial sound either. ⊎_elim (added_action s t line index serial sound) (changed_in s t line index serial sound) either

pub returns-clause-changed : goal.returns-clause-changed
returns-clause-changed c = changed_action

pub returns-clause-deleted : goal.returns-clause-deleted
returns-clause-deleted c = deleted_action
