-- An edit that is none of filters leaves the rows.
use Rattle.std.proofs.Common.{◌≡◌, ℕ, ◌+◌, Bool, true, false, not, cond, Option, Some, None, Ok, refl, sym, ◌∙◌, ap}
use Rattle.std.specs.Prelude.{filter}
use Rattle.std.specs.Option.{unwrap_or}
use Rattle.act_kinds.specs.declared.params.Params.{Params}
use Rattle.filter_state.specs.declared.action_line.ActionLine.{ActionLine}
use Rattle.filter_state.specs.declared.edit.Edit.{Edit}
use Rattle.filter_state.specs.declared.edit.Edit.TheVariants as edits
use Rattle.filter_state.specs.declared.refusal.Done.{Done}
use Rattle.filter_state.specs.declared.refusal.Done.TheVariants as dones
use Rattle.filter_state.specs.declared.refusal.Refusal.{Refusal}
use Rattle.filter_state.specs.States.{State}
use Rattle.filter_state.specs.Actions.{is_named, is_live, index_or_free, Made, made_more}
use Rattle.filter_state.specs.Refusals.{or_else, no_hook, hook_exists, hook_in_use, actions_full, counters_full, action_exists, no_such_action, action_bound}
use Rattle.filter_state.specs.Steps.{Stepped, unless, made_of, with_actions, make_given, change_given, step}
use Rattle.filter_state.specs.Journals.{state_after}
use Rattle.hook_meaning.specs.OfEdits.Premises.{IsOfFilters}
use Rattle.hook_meaning.proofs.OfEdits.Stepping.{unless_refused}

module _ (s : State) where
  abbrev KeepsRows : Stepped → Type 0
  KeepsRows stepped = (state_after s stepped).rows ≡ s.rows

  not_refused : (refused : Option Refusal) (rest : Stepped) → KeepsRows rest → KeepsRows (unless refused rest)
  not_refused = unless_refused KeepsRows (λ refusal. refl)

  make_keeps : (line : ActionLine) (given : Option Params) → KeepsRows (make_given s line given)
  make_keeps line (Some params) =
      let index : ℕ = index_or_free line.index line.kind s.actions in
      let more : Made = made_more (made_of s) params index 0 in
      not_refused (or_else (actions_full more) (counters_full more)) (Ok (with_actions s more, dones.ActionMade index (s.actions_made + 1))) refl
  make_keeps line None = refl

  given_keeps : (line : ActionLine) (index : ℕ) (given : Option Params) → KeepsRows (change_given s line index given)
  given_keeps line index (Some params) = refl
  given_keeps line index None = refl

  change_keeps : (line : ActionLine) (index : ℕ) (b : Bool) → KeepsRows (cond b (change_given s line index line.params) (make_given s line line.params))
  change_keeps line index true = given_keeps line index line.params
  change_keeps line index false = make_keeps line line.params

  step_keeps : (y : Edit) → (IsOfFilters y → ⊥) → KeepsRows (step s y)
  step_keeps edits.HookAdd other = not_refused (hook_exists s) (Ok (record s { hooked = true }, dones.Hooked)) refl
  step_keeps edits.HookDel other = not_refused (or_else (no_hook s) (hook_in_use s)) (Ok (record s { hooked = false }, dones.Unhooked)) refl
  step_keeps (edits.FilterAdd line) other = absurd (other tt)
  step_keeps (edits.FilterReplace line) other = absurd (other tt)
  step_keeps (edits.FilterDel hook protocol chain pref handle) other = absurd (other tt)
  step_keeps (edits.ActionAdd line) other = not_refused (action_exists s line.kind line.index) (make_given s line line.params) (make_keeps line line.params)
  step_keeps (edits.ActionChange line) other = change_keeps line (unwrap_or line.index 0) (is_live line.kind (unwrap_or line.index 0) s.actions)
  step_keeps (edits.ActionDel kind index) other =
      not_refused (or_else (no_such_action s kind index) (action_bound s kind index)) (Ok (record s { actions = filter (λ x. not (is_named kind index x)) s.actions }, dones.ActionGone)) refl

pub same_rows : (s t : State) (y : Edit) (done : Done) → (IsOfFilters y → ⊥) → step s y ≡ Ok (t, done) → t.rows ≡ s.rows
same_rows s t y done other e = sym (ap (λ stepped. (state_after s stepped).rows) e) ∙ step_keeps s y other
