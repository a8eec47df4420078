-- How many actions an edit makes that has a filter's line.
use Rattle.std.proofs.Common.{◌≡◌, inl, inr, ◌+◌, List, Ok, sym, subst, arith}
use Rattle.store_history.specs.declared.history.Commit.{Commit}
use Rattle.filter_state.specs.declared.edit.Edit.{Edit}
use Rattle.filter_state.specs.declared.edit.Edit.TheVariants as edits
use Rattle.filter_state.specs.declared.edit.FilterLine.{FilterLine}
use Rattle.filter_state.specs.declared.refusal.Done.{Done}
use Rattle.filter_state.specs.States.{State}
use Rattle.filter_state.specs.Steps.{step}
use Rattle.hook_store_law.specs.OfEdits.Premises.{now, next, IsAddOf}
use Rattle.desk_parts.specs.OfLineActions.Put.{IsOfLine}
use Rattle.desk_parts.proofs.OfLineActions.Living.{made_rises}
use Rattle.shared_hook.specs.OfDeskEdits.Spent.{made_by}

pub of_line : (s : State) (line : FilterLine) (y : Edit) → IsAddOf s line y → IsOfLine y
of_line s line y (inl is) = subst IsOfLine (sym is) tt
of_line s line y (inr both) = subst IsOfLine (sym both.0) tt

pub made_more : (h : List (Commit Edit)) (y : Edit) (done : Done) → IsOfLine y → step (now h) y ≡ Ok (next h y, done) → (next h y).actions_made ≡ (now h).actions_made + made_by h y
made_more h y done is steps = let rises = made_rises (now h) (next h y) y done is steps in omega (arith, rises)

pub of_replace : (line : FilterLine) (y : Edit) → y ≡ edits.FilterReplace line → IsOfLine y
of_replace line y is = subst IsOfLine (sym is) tt
