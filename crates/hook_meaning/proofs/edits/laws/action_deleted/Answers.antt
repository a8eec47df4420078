use Rattle.filter_state.specs.declared.edit.Edit.TheVariants as edits
use Rattle.hook_meaning.proofs.OfEdits.Marking.{leaves_masks, makes_none}
use Rattle.hook_meaning.proofs.edits.laws.action_deleted.Goals as goal

pub returns-clause-leaves : goal.returns-clause-leaves
returns-clause-leaves c = λ h b kind index t done a. leaves_masks h b (edits.ActionDel kind index) t done a tt

pub returns-clause-none_comes : goal.returns-clause-none_comes
returns-clause-none_comes c = λ h b kind index t done a. makes_none h b (edits.ActionDel kind index) t done a tt
