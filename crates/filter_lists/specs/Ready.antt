-- What contracts see of a prepared edit.
use Rattle.filter_state.specs.declared.edit.Edit.{Edit}
use Rattle.hook_lists.specs.declared.kept.Kept.{Kept}

-- the lists as they were left, with their room, and the edit
pub record Ready : Type 0 where
  pub lists : Kept
  pub edit : Edit
