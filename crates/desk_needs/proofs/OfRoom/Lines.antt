-- A line makes no more actions than it has.
use Rattle.std.proofs.Common.{◌≡◌, ℕ, ◌+◌, ◌≤◌, ◌&&◌, not, Bool, true, false, List, [], ◌∷◌, length, Option, Some, None, Ok, Err, Result, refl, sym, ◌∙◌, ap, subst, arith}
use Rattle.std.specs.Prelude.{filter, if◌then◌else◌}
use Rattle.std.specs.Option.{unwrap_or}
use Rattle.act_kinds.specs.declared.params.Params.{Params}
use Rattle.filter_state.specs.declared.action_line.ActionLine.{ActionLine}
use Rattle.filter_state.specs.declared.edit.Edit.{Edit}
use Rattle.filter_state.specs.declared.edit.Edit.TheVariants as edits
use Rattle.filter_state.specs.declared.edit.FilterLine.{FilterLine}
use Rattle.filter_state.specs.declared.refusal.Done.{Done}
use Rattle.filter_state.specs.declared.refusal.Done.TheVariants as dones
use Rattle.filter_state.specs.declared.refusal.Refusal.{Refusal}
use Rattle.filter_state.specs.States.{Row, State}
use Rattle.filter_state.specs.Actions.{Resolved, Made, resolved, resolved_by, bound_or_made, made_more, index_or_free, serial_of, is_live, is_named}
use Rattle.filter_state.specs.Lines.{IsLine}
use Rattle.filter_state.specs.Refusals.{or_else, no_hook, hook_exists, hook_in_use, actions_full, counters_full, protocol_clash_if, no_such_table, no_such_filter, no_such_action, action_bound, action_exists}
use Rattle.filter_state.specs.Tables.{in_table, has_handle}
use Rattle.filter_state.specs.Steps.{Stepped, step, filter_add, filter_replace, replace_or_add, taken_out, change_given, make_given, made_of, with_actions}
use Rattle.filter_state.specs.Journals.{state_after}
use Rattle.state_laws.proofs.Answers.{and_then_ok}
use Rattle.hook_store_law.proofs.OfEffects.Adding.{adds}
use Rattle.hook_store_law.proofs.OfEffects.Replacing.{replaces}
use Rattle.hook_store_law.specs.OfEdits.Premises.{named_row}
use Rattle.hook_store_law.proofs.OfEdits.Stepping.{unless_refused}
use Rattle.desk_needs.specs.Needs.{made}

-- the count of actions that were made, in what is resolved so far
abbrev so_many : Result Resolved Refusal → ℕ → ℕ → Type 0
so_many (Ok r) made more = r.so_far.made ≤ made + more
so_many (Err refusal) made more = Unit {0}

one_more : (r : Resolved) (line : ActionLine) (index : ℕ) (serial : Option ℕ) (given : Option Params) → so_many (bound_or_made r line index serial given) r.so_far.made 1
one_more r line index (Some serial) given = omega arith
one_more r line index None (Some params) = omega arith
one_more r line index None None = tt

from_ok : (o : Result Resolved Refusal) (r : Resolved) (made more : ℕ) → o ≡ Ok r → so_many o made more → r.so_far.made ≤ made + more
from_ok o r made more e so = subst (λ x. so_many x made more) e so

pub list_makes : (r last : Resolved) (lines : List ActionLine) → resolved r lines ≡ Ok last → last.so_far.made ≤ r.so_far.made + length lines
list_makes r last [] e = from_ok (Ok r) last r.so_far.made 0 e (omega arith)
list_makes r last (line ∷ lines) e =
    let step = and_then_ok (λ next. resolved next lines) (resolved_by r line) last e in
    let index : ℕ = index_or_free line.index line.kind r.so_far.actions in
    let one = from_ok (resolved_by r line) step.0 r.so_far.made 1 step.1 (one_more r line index (serial_of line.kind index r.so_far.actions) line.params) in
    let rest = list_makes step.0 last lines step.2 in
    omega (arith, one, rest)

line_makes : (s t : State) (line : FilterLine) (done : Done) → filter_add s line ≡ Ok (t, done) → t.actions_made ≤ s.actions_made + length line.actions
line_makes s t line done e =
    let a = adds s t line done e in
    let same = ap (λ (u : State). u.actions_made) a.after in
    let few = list_makes _ a.r line.actions a.resolves in
    omega (arith, same, few)

replaced_makes : (s t : State) (line : FilterLine) (done : Done) (o : Option Row) → named_row s line ≡ o → filter_replace s line ≡ Ok (t, done) → t.actions_made ≤ s.actions_made + length line.actions
replaced_makes s t line done (Some row) is e =
    let a = replaces s t line row done is e in
    let same = ap (λ (u : State). u.actions_made) a.after in
    let few = list_makes _ a.r line.actions a.resolves in
    omega (arith, same, few)
replaced_makes s t line done None is e = line_makes s t line done (sym (ap (replace_or_add s line) is) ∙ e)

-- ---- edits apart from filters
abbrev MakesOne : State → Stepped → Type 0
MakesOne s stepped = (state_after s stepped).actions_made ≤ s.actions_made + 1

one_made : (s : State) (stepped : Stepped) (t : State) (done : Done) → stepped ≡ Ok (t, done) → MakesOne s stepped → t.actions_made ≤ s.actions_made + 1
one_made s stepped t done e few = subst (MakesOne s) e few

made_one : (s : State) (line : ActionLine) (given : Option Params) → MakesOne s (make_given s line given)
made_one s line (Some params) =
    let index : ℕ = index_or_free line.index line.kind s.actions in
    let next : Made = made_more (made_of s) params index 0 in
    unless_refused (MakesOne s) (λ refusal. omega arith) (or_else (actions_full next) (counters_full next)) (Ok (with_actions s next, dones.ActionMade index (s.actions_made + 1))) (omega arith)
made_one s line None = omega arith

changed_one : (s : State) (line : ActionLine) (index : ℕ) (b : Bool) → MakesOne s (if b then change_given s line index line.params else make_given s line line.params)
changed_one s line index true = given line.params
  where
    given : (o : Option Params) → MakesOne s (change_given s line index o)
    given (Some params) = omega arith
    given None = omega arith
changed_one s line index false = made_one s line line.params

pub few_made : (s t : State) (y : Edit) (done : Done) → IsLine y → step s y ≡ Ok (t, done) → t.actions_made ≤ s.actions_made + 16
few_made s t edits.HookAdd done line e = let few = one_made s _ t done e (unless_refused (MakesOne s) (λ refusal. omega arith) (hook_exists s) _ (omega arith)) in omega (arith, few)
few_made s t edits.HookDel done line e = let few = one_made s _ t done e (unless_refused (MakesOne s) (λ refusal. omega arith) (or_else (no_hook s) (hook_in_use s)) _ (omega arith)) in omega (arith, few)
few_made s t (edits.FilterAdd line) done is e = let few = line_makes s t line done e in let most = is.most in omega (arith, few, most)
few_made s t (edits.FilterReplace line) done is e = let few = replaced_makes s t line done (named_row s line) refl e in let most = is.0.most in omega (arith, few, most)
few_made s t (edits.FilterDel hook protocol chain pref (Some handle)) done line e =
    let few = one_made s _ t done e (unless_refused (MakesOne s) (λ refusal. omega arith)
    (or_else (no_hook s) (or_else (protocol_clash_if s hook chain pref protocol) (or_else (no_such_table s hook chain pref) (no_such_filter s hook chain pref handle))))
    (Ok (taken_out s (λ row. in_table hook chain pref row && has_handle handle row), dones.FilterGone)) (omega arith)) in omega (arith, few)
few_made s t (edits.FilterDel hook protocol chain pref None) done line e =
    let few = one_made s _ t done e (unless_refused (MakesOne s) (λ refusal. omega arith) (or_else (no_hook s) (or_else (protocol_clash_if s hook chain pref protocol) (no_such_table s hook chain pref)))
    (Ok (taken_out s (in_table hook chain pref), dones.TableGone)) (omega arith)) in omega (arith, few)
few_made s t (edits.ActionAdd line) done is e = let few = one_made s _ t done e (unless_refused (MakesOne s) (λ refusal. omega arith) (action_exists s line.kind line.index) (make_given s line line.params) (made_one s line line.params)) in omega (arith, few)
few_made s t (edits.ActionChange line) done is e = let few = one_made s _ t done e (changed_one s line (unwrap_or line.index 0) (is_live line.kind (unwrap_or line.index 0) s.actions)) in omega (arith, few)
few_made s t (edits.ActionDel kind index) done line e =
    let few = one_made s _ t done e (unless_refused (MakesOne s) (λ refusal. omega arith) (or_else (no_such_action s kind index) (action_bound s kind index))
    (Ok (record s { actions = filter (λ action. not (is_named kind index action)) s.actions }, dones.ActionGone)) (omega arith)) in omega (arith, few)
