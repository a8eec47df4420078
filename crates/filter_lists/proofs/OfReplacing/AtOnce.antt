-- Replacing at once leaves what the step leads to.
use Rattle.std.proofs.Common.{◌≡◌, ℕ, ◌+◌, ◌<◌, List, Some, Ok, Err, refl, sym, ◌∙◌, subst}
use Rattle.filter_state.specs.declared.edit.FilterLine.{FilterLine}
use Rattle.filter_state.specs.declared.refusal.Done.{Done}
use Rattle.filter_state.specs.States.{Row}
use Rattle.filter_state.specs.Order.{SameState}
use Rattle.filter_state.specs.Steps.{Stepped, replace_at}
use Rattle.filter_index.specs.declared.filter.Filter.{Filter}
use Rattle.filter_tables.specs.Plain.{PlainMask, PlainTable}
use Rattle.filter_tables.specs.Rows.{row_of}
use Rattle.action_plan.specs.declared.planned.PlannedAction.{PlannedAction}
use Rattle.action_plan.specs.Plans.{serials_of}
use Rattle.hook_lists.specs.declared.kept.Kept.{Kept}
use Rattle.hook_lists.specs.States.{state_of}
use Rattle.hook_lists.specs.Steps.{IsRoomier, PlanFits}
use Rattle.hook_lists.specs.Done.{IsDone, IsDoneAtOnce}
use Rattle.filter_lists.proofs.OfAdding.Later.{fits_later}
use Rattle.filter_lists.specs.declared.replacing.replacement.Change.{Change}
use Rattle.filter_lists.specs.declared.replacing.replacement.Old.{Old}
use Rattle.filter_lists.specs.OfReplacing.Planning.{IsLooked, HasChange}
use Rattle.filter_lists.specs.OfReplacing.Replacements.{old_row, state_after, answer_of, replacement_of, IsReady, IsPlanned}
use Rattle.filter_lists.proofs.OfReplacing.Ready.{ready, same_state, looked_later, replacement_planned}

-- what was taken and found before the filter is changed: first room for the actions, then its new place
pub record AreTaken (start mid kept : Kept) (line : FilterLine) (old : Old) (plan : List PlannedAction) (change : Change)
    (for_filter serials : List ℕ) : Type 0 where
  pub looked : IsLooked start line old (Ok plan)
  pub masks : start.masks_made + 1 < 4294967296
  pub first : IsRoomier start mid
  pub second : IsRoomier mid kept
  pub actions : kept.actions ≡ mid.actions
  pub fits : PlanFits mid plan
  pub its_change : HasChange mid kept line old for_filter change
  pub given : for_filter ≡ serials_of plan
  pub told : serials ≡ serials_of plan

module _ (start mid kept : Kept) (line : FilterLine) (old : Old) (plan : List PlannedAction) (change : Change) (for_filter serials : List ℕ)
    (taken : AreTaken start mid kept line old plan change for_filter serials) where
  its_own : HasChange mid kept line old (serials_of plan) change
  its_own = subst (λ (ns : List ℕ). HasChange mid kept line old ns change) taken.given taken.its_change

  few_masks : mid.masks_made + 1 < 4294967296
  few_masks = subst (λ n. n + 1 < 4294967296) (sym taken.first.masks_made) taken.masks

  its_plan : PlanFits kept plan
  its_plan = fits_later mid kept plan taken.actions taken.fits

  abbrev IsMade : Kept → Done → List ℕ → Type 0
  IsMade new done ns =
      (t : PlainTable) (m : PlainMask) (f : Filter) → IsReady kept (replacement_of old change plan ns) t m f
      → IsDone new done (state_after (state_of kept) (row_of old.hook t m f) (replacement_of old change plan ns)) (answer_of (replacement_of old change plan ns))

  by_planned : (new : Kept) (done : Done) (stepped : Stepped) → IsPlanned kept (Ok (ready old change plan)) stepped → IsMade new done (serials_of plan) → IsDoneAtOnce start new (Ok done) stepped
  by_planned new done (Ok (next, said)) (t, m, f, there, leads, answers) made =
      let is = made t m f there in
      record { state = subst (SameState (state_of new)) leads is.state; answer = is.answer ∙ answers; whole = is.whole; filters = is.filters }
  by_planned new done (Err refusal) planned made = absurd planned

  pub done_there : (new : Kept) (done : Done) (row : Row) → IsMade new done serials → old_row (state_of start) line ≡ Some row → IsDoneAtOnce start new (Ok done) (replace_at (state_of start) line row)
  done_there new done row made at =
      let same = same_state start mid taken.first in
      subst (λ s. IsDoneAtOnce start new (Ok done) (replace_at s line row)) same
      (by_planned new done (replace_at (state_of mid) line row)
      (replacement_planned mid kept line old plan taken.second (ready old change plan) row (looked_later start mid line old plan taken.first taken.looked) (refl, refl, refl) its_plan its_own few_masks
      (subst (λ s. old_row s line ≡ Some row) (sym same) at))
      (subst (IsMade new done) taken.told made))
