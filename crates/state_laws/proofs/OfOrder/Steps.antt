-- Each edit does the same to states that differ in the order of their rows alone.
use Rattle.std.proofs.Common.{ℕ, Bool, true, false, cond, List, Option, Some, None, refl, ap, subst}
use Rattle.act_kinds.specs.declared.params.Params.{Params}
use Rattle.filter_state.specs.declared.action_line.ActionLine.{ActionLine}
use Rattle.filter_state.specs.declared.edit.Edit.{Edit}
use Rattle.filter_state.specs.States.{Row, State}
use Rattle.filter_state.specs.Sound.{Sound, EachPair, GoTogether}
use Rattle.filter_state.specs.Actions.{is_live, made_more, index_or_free}
use Rattle.filter_state.specs.Refusals.{or_else, no_hook, hook_exists, no_such_action, action_bound, action_exists, actions_full, counters_full}
use Rattle.filter_state.specs.Steps.{Stepped, made_of, make_given, change_given, step}
use Rattle.filter_state.specs.Order.{SameRows, SameState, SameStepped}
use Rattle.state_laws.proofs.OfOrder.States.{with_rows, rows_only, is_with_rows}
use Rattle.state_laws.proofs.OfOrder.Refused.{in_use_same, unless_one, unless_both}
use Rattle.state_laws.proofs.OfOrder.Filters.{filter_add_same, filter_replace_same, filter_del_same}
use Rattle.filter_state.specs.declared.edit.Edit.TheVariants as edits

-- ---- actions apart from filters: no row is read
make_same : (s : State) {rows : List Row} → SameRows s.rows rows → (action : ActionLine) (given : Option Params) →
    SameStepped (make_given s action given) (make_given (with_rows s rows) action given)
make_same s same action None = refl
make_same s {rows = rows} same action (Some params) =
    let next = made_more (made_of s) params (index_or_free action.index action.kind s.actions) 0 in
    unless_one (or_else (actions_full next) (counters_full next)) _ _ (rows_only (record s { actions = next.actions; actions_made = next.made }) rows same, refl)

given_same : (s : State) {rows : List Row} → SameRows s.rows rows → (action : ActionLine) (index : ℕ) (given : Option Params) →
    SameStepped (change_given s action index given) (change_given (with_rows s rows) action index given)
given_same s same action index None = refl
given_same s {rows = rows} same action index (Some params) = (rows_only _ rows same, refl)

abbrev changed : State → ActionLine → ℕ → Bool → Stepped
changed s action index live = cond live (change_given s action index action.params) (make_given s action action.params)

changed_same : (s : State) {rows : List Row} → SameRows s.rows rows → (action : ActionLine) (index : ℕ) (live : Bool) →
    SameStepped (changed s action index live) (changed (with_rows s rows) action index live)
changed_same s same action index true = given_same s same action index action.params
changed_same s same action index false = make_same s same action action.params

-- ---- each edit
pub step_rows : (s : State) (rows : List Row) (edit : Edit) → SameRows s.rows rows → EachPair GoTogether s.rows → SameStepped (step s edit) (step (with_rows s rows) edit)
step_rows s rows edits.HookAdd same pairs = unless_one (hook_exists s) _ _ (rows_only (record s { hooked = true }) rows same, refl)
step_rows s rows edits.HookDel same pairs =
    unless_both (ap (λ o. or_else (no_hook s) o) (in_use_same s same)) _ _ (rows_only (record s { hooked = false }) rows same, refl)
step_rows s rows (edits.FilterAdd line) same pairs = filter_add_same s same pairs line
step_rows s rows (edits.FilterReplace line) same pairs = filter_replace_same s same pairs line
step_rows s rows (edits.FilterDel hook protocol chain pref handle) same pairs = filter_del_same s same pairs hook protocol chain pref handle
step_rows s rows (edits.ActionAdd action) same pairs = unless_one (action_exists s action.kind action.index) _ _ (make_same s same action action.params)
step_rows s rows (edits.ActionChange action) same pairs = changed_same s same action _ (is_live action.kind _ s.actions)
step_rows s rows (edits.ActionDel kind index) same pairs =
    unless_one (or_else (no_such_action s kind index) (action_bound s kind index)) _ _ (rows_only _ rows same, refl)

pub step_same : (s t : State) (edit : Edit) → SameState s t → Sound s → SameStepped (step s edit) (step t edit)
step_same s t edit same sound =
    subst (λ u. SameStepped (step s edit) (step u edit)) (is_with_rows s t same) (step_rows s t.rows edit same.rows sound.together)
