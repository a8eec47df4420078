-- What the crates of edits tell of a step, told of the plan.
use Rattle.std.proofs.Common.{◌≡◌, Some, None, Ok, Err, ◌∙◌, ap, subst}
use Rattle.filter_state.specs.declared.edit.FilterLine.{FilterLine}
use Rattle.filter_state.specs.declared.refusal.Done.{Done}
use Rattle.filter_state.specs.declared.refusal.Refusal.{Refusal}
use Rattle.filter_state.specs.States.{Row, State}
use Rattle.filter_state.specs.Order.{SameState}
use Rattle.filter_state.specs.Steps.{Stepped, filter_add, filter_replace, replace_at, replace_or_add}
use Rattle.hook_lists.specs.declared.kept.Kept.{Kept}
use Rattle.hook_lists.specs.States.{state_of}
use Rattle.hook_lists.specs.Done.{IsDone}
use Rattle.filter_lists.specs.OfAdding.Additions as additions
use Rattle.filter_lists.specs.OfReplacing.Replacements as replacements
use Rattle.filter_lists.specs.OfRemoving.Removals as removals
use Rattle.filter_lists.specs.Plans.{IsPlanned}

-- ---- a refusal is told alike
pub addition_refused : (kept : Kept) (refusal : Refusal) (st : Stepped) → additions.IsPlanned kept (Err refusal) st → IsPlanned kept (Err refusal) st
addition_refused kept refusal (Ok next) planned = planned
addition_refused kept refusal (Err said) planned = planned

pub replacement_refused : (kept : Kept) (refusal : Refusal) (st : Stepped) → replacements.IsPlanned kept (Err refusal) st → IsPlanned kept (Err refusal) st
replacement_refused kept refusal (Ok next) planned = planned
replacement_refused kept refusal (Err said) planned = planned

pub removal_refused : (kept : Kept) (refusal : Refusal) (st : Stepped) → removals.IsPlanned kept (Err refusal) st → IsPlanned kept (Err refusal) st
removal_refused kept refusal (Ok next) planned = absurd planned
removal_refused kept refusal (Err said) planned = planned

-- ---- a replace with or without its filter
pub is_add : (s : State) (line : FilterLine) → replacements.old_row s line ≡ None → filter_replace s line ≡ filter_add s line
is_add s line none = ap (replace_or_add s line) none

pub is_replace : (s : State) (line : FilterLine) (row : Row) → replacements.old_row s line ≡ Some row → filter_replace s line ≡ replace_at s line row
is_replace s line row some = ap (replace_or_add s line) some

-- ---- what was done
pub done_as : (kept : Kept) (done : Done) (to next : State) (answer said : Done) → to ≡ next → answer ≡ said → IsDone kept done to answer → IsDone kept done next said
done_as kept done to next answer said state same is = record {
  state = subst (SameState (state_of kept)) state is.state;
  answer = is.answer ∙ same;
  whole = is.whole;
  filters = is.filters;
}
