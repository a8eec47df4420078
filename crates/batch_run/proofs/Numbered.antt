-- An edit makes no action that is gone again after it: what it makes has the next serials, in order.
use Rattle.std.proofs.Common.{◌≡◌, ◌∙◌, ℕ, ◌<◌, ◌≤◌, Bool, true, false, ◌==◌, if◌then◌else◌, ◌&&◌, List, [], ◌∷◌, Option, Some, None, Result, Ok, Err, refl, subst, arith, eqb-true}
use Rattle.std.specs.Prelude.{filter, not}
use Rattle.std.specs.List.{list_any}
use Rattle.std.specs.Option.{unwrap_or}
use Rattle.std.proofs.lemmas.Bool.{ne_eqb, not_from_false}
use Rattle.tc_base.specs.declared.hook.Hook.{Hook}
use Rattle.tc_base.specs.declared.hook.Proto.{Proto}
use Rattle.act_kinds.specs.declared.params.Params.{Params}
use Rattle.filter_state.specs.declared.action_line.ActionLine.{ActionLine}
use Rattle.filter_state.specs.declared.edit.Edit.{Edit}
use Rattle.filter_state.specs.declared.edit.Edit.TheVariants as edits
use Rattle.filter_state.specs.declared.edit.FilterLine.{FilterLine}
use Rattle.filter_state.specs.declared.refusal.Done.{Done}
use Rattle.filter_state.specs.declared.refusal.Refusal.{Refusal}
use Rattle.filter_state.specs.States.{Row, Action, State}
use Rattle.filter_state.specs.Lines.{IsFilter, IsLine}
use Rattle.filter_state.specs.Actions.{is_live, is_named, has_serial, more_bound, is_referred, index_or_free, serial_of, made_more, Resolved, and_then, bound_or_made, resolved_by, resolved}
use Rattle.filter_state.specs.Tables.{in_table, has_handle, first_where, filter_row}
use Rattle.filter_state.specs.Steps.{Stepped, unless, made_of, with_actions, resolved_for, pref_for, add_resolved, add_at, filter_added, filter_add, filter_replaced, replace_resolved, replace_or_add, taken_out, filter_del, make_given, change_given, change_at, step}
use Rattle.filter_state.specs.Sound.{Each, IsRow, IsAction, Sound}
use Rattle.state_laws.proofs.Answers.{SoundAfter}
use Rattle.filter_state.proofs.Pairs.{each_weaker, found}
use Rattle.state_laws.proofs.Held.{HasReference, one_passes}
use Rattle.state_laws.proofs.NewRow.{line_resolves}
use Rattle.state_laws.proofs.Steps.{step_sound}
use Rattle.batch_run.proofs.NewSerials.{IsNumbered, none_new, made_numbered, changed_numbered, AreHeldSince, all_let_go}

abbrev pub StepsNumbered : State → Stepped → Type 0
StepsNumbered s (Ok (next, done)) = IsNumbered s.actions_made next.actions_made next.actions
StepsNumbered s (Err refusal) = Unit {0}

unless_numbered : (s : State) (o : Option Refusal) (rest : Stepped) → StepsNumbered s rest → StepsNumbered s (unless o rest)
unless_numbered s (Some refusal) rest is = tt
unless_numbered s None rest is = is

then_numbered : {A : Type 0} (s : State) (more : A → Stepped) (it : Result A Refusal) → ((a : A) → it ≡ Ok a → StepsNumbered s (more a)) → StepsNumbered s (and_then more it)
then_numbered s more (Ok a) is = is a refl
then_numbered s more (Err refusal) is = tt

accepted_numbered : (s next : State) (o : Option Refusal) (done : Done) → IsNumbered s.actions_made next.actions_made next.actions → StepsNumbered s (unless o (Ok (next, done)))
accepted_numbered s next o done is = unless_numbered s o (Ok (next, done)) is

-- ---- where nothing is made
none_made : (before : ℕ) (next : State) → Sound next → next.actions_made ≡ before → IsNumbered before next.actions_made next.actions
none_made before next sound same = record {
  many = 0;
  count = omega arith;
  given = none_new before next.actions (each_weaker (IsAction next) (λ (a : Action). a.serial ≤ before) (λ a is. let low = is.serial in omega (arith, low.1)) next.actions sound.actions);
}

untouched : (s next : State) (o : Option Refusal) (done : Done) → next.actions_made ≡ s.actions_made → SoundAfter s (unless o (Ok (next, done))) → StepsNumbered s (unless o (Ok (next, done)))
untouched s next (Some refusal) done same sound = tt
untouched s next None done same sound = none_made s.actions_made next sound same

-- ---- the actions of a filter's line
abbrev Numbers : ℕ → Result Resolved Refusal → Type 0
Numbers before (Ok r) = IsNumbered before r.so_far.made r.so_far.actions
Numbers before (Err refusal) = Unit {0}

one_numbers : (before : ℕ) (r : Resolved) (line : ActionLine) (index : ℕ) (serial : Option ℕ) (given : Option Params) → IsNumbered before r.so_far.made r.so_far.actions
    → Numbers before (bound_or_made r line index serial given)
one_numbers before r line index (Some serial) given is = changed_numbered before r.so_far.made (is_named line.kind index) more_bound (λ x. refl) r.so_far.actions is
one_numbers before r line index None (Some params) is = made_numbered before r.so_far params index 1 is
one_numbers before r line index None None is = tt

then_numbers : (before : ℕ) (more : Resolved → Result Resolved Refusal) → ((r : Resolved) → IsNumbered before r.so_far.made r.so_far.actions → Numbers before (more r)) → (it : Result Resolved Refusal)
    → Numbers before it → Numbers before (and_then more it)
then_numbers before more goes (Ok r) is = goes r is
then_numbers before more goes (Err refusal) is = tt

all_number : (before : ℕ) (lines : List ActionLine) (r : Resolved) → IsNumbered before r.so_far.made r.so_far.actions → Numbers before (resolved r lines)
all_number before [] r is = is
all_number before (line ∷ lines) r is =
    let index : ℕ = index_or_free line.index line.kind r.so_far.actions in
    then_numbers before (λ next. resolved next lines) (λ next numbered. all_number before lines next numbered) (resolved_by r line)
    (one_numbers before r line index (serial_of line.kind index r.so_far.actions) line.params is)

line_numbers : (s : State) (lines : List ActionLine) (r : Resolved) → Sound s → resolved_for s lines ≡ Ok r → IsNumbered s.actions_made r.so_far.made r.so_far.actions
line_numbers s lines r sound e =
    subst (Numbers s.actions_made) e (all_number s.actions_made lines (record { so_far = made_of s; serials = [] }) (none_made s.actions_made s sound refl))

-- ---- filters
filter_add_numbered : (s : State) (line : FilterLine) → Sound s → StepsNumbered s (filter_add s line)
filter_add_numbered s line sound =
    unless_numbered s _ (and_then (add_at s line) (pref_for s line.hook line.chain line.pref)) (then_numbered s (add_at s line) (pref_for s line.hook line.chain line.pref) (λ pref found_pref.
    unless_numbered s _ (and_then (add_resolved s line pref) (resolved_for s line.actions)) (then_numbered s (add_resolved s line pref) (resolved_for s line.actions) (λ r e.
    unless_numbered s _ (filter_added s line pref r) (line_numbers s line.actions r sound e)))))

-- the actions of the old list were made before
given_before : (s : State) → Sound s → (serial : ℕ) → list_any (has_serial serial) s.actions ≡ true → serial ≤ s.actions_made
given_before s sound serial some =
    let one = one_passes (IsAction s) (has_serial serial) s.actions sound.actions some in
    let same = eqb-true one.0.serial serial one.2 in
    let low = one.1.serial in
    omega arith

old_before : (s : State) (old : Row) → Sound s → IsRow s old → Each (λ serial. serial ≤ s.actions_made) old.actions
old_before s old sound is = each_weaker (λ serial. list_any (has_serial serial) s.actions ≡ true) (λ serial. serial ≤ s.actions_made) (given_before s sound) old.actions is.live

referred : (x : Action) → HasReference x → is_referred x ≡ true
referred x has = not_from_false (x.references == 0) (ne_eqb x.references 0 (λ e. absurd (omega arith)))

held_since : (s : State) (line : FilterLine) (r : Resolved) → Sound s → IsFilter line → resolved_for s line.actions ≡ Ok r → AreHeldSince s.actions_made r.so_far.actions
held_since s line r sound is e =
    let resolves = line_resolves s line r sound is e in
    each_weaker HasReference (λ (x : Action). s.actions_made < x.serial → is_referred x ≡ true) (λ x has later. referred x has) r.so_far.actions resolves.0.held

replaced_numbered : (s : State) (line : FilterLine) (old : Row) (r : Resolved) → Sound s → IsFilter line → IsRow s old → resolved_for s line.actions ≡ Ok r → StepsNumbered s (filter_replaced s line old r)
replaced_numbered s line old r sound is row e =
    let numbered = line_numbers s line.actions r sound e in
    record {
      many = numbered.many;
      count = numbered.count;
      given = all_let_go s.actions_made old.actions (old_before s old sound row) r.so_far.actions (held_since s line r sound is e) ∙ numbered.given;
    }

replace_numbered : (s : State) (line : FilterLine) (test : Row → Bool) (old : Option Row) → Sound s → IsFilter line → first_where test s.rows ≡ old → StepsNumbered s (replace_or_add s line old)
replace_numbered s line test None sound is e = filter_add_numbered s line sound
replace_numbered s line test (Some old) sound is e =
    let row = found (IsRow s) test s.rows old sound.rows e in
    unless_numbered s _ (and_then (replace_resolved s line old) (resolved_for s line.actions)) (then_numbered s (replace_resolved s line old) (resolved_for s line.actions) (λ r at.
    unless_numbered s _ (filter_replaced s line old r) (replaced_numbered s line old r sound is row.0 at)))

del_numbered : (s : State) (hook : Hook) (protocol : Option Proto) (chain pref : ℕ) (handle : Option ℕ) → SoundAfter s (filter_del s hook protocol chain pref handle)
    → StepsNumbered s (filter_del s hook protocol chain pref handle)
del_numbered s hook protocol chain pref (Some handle) after = untouched s (taken_out s (λ row. in_table hook chain pref row && has_handle handle row)) _ _ refl after
del_numbered s hook protocol chain pref None after = untouched s (taken_out s (in_table hook chain pref)) _ _ refl after

-- ---- actions apart from filters
make_numbered : (s : State) (action : ActionLine) (given : Option Params) → Sound s → StepsNumbered s (make_given s action given)
make_numbered s action (Some params) sound =
    let index : ℕ = index_or_free action.index action.kind s.actions in
    accepted_numbered s (with_actions s (made_more (made_of s) params index 0)) _ _ (made_numbered s.actions_made (made_of s) params index 0 (none_made s.actions_made s sound refl))
make_numbered s action None sound = tt

given_numbered : (s : State) (action : ActionLine) (index : ℕ) (given : Option Params) → Sound s → StepsNumbered s (change_given s action index given)
given_numbered s action index (Some params) sound =
    changed_numbered s.actions_made s.actions_made (is_named action.kind index) (λ x. record x { params = params }) (λ x. refl) s.actions (none_made s.actions_made s sound refl)
given_numbered s action index None sound = tt

change_numbered : (s : State) (action : ActionLine) (index : ℕ) → Sound s → StepsNumbered s (change_at s action index)
change_numbered s action index sound = by_test (is_live action.kind index s.actions)
  where
    by_test : (b : Bool) → StepsNumbered s (if b then change_given s action index action.params else make_given s action action.params)
    by_test true = given_numbered s action index action.params sound
    by_test false = make_numbered s action action.params sound

-- ---- each edit
numbered : (s : State) (edit : Edit) → Sound s → IsLine edit → SoundAfter s (step s edit) → StepsNumbered s (step s edit)
numbered s edits.HookAdd sound is after = untouched s (record s { hooked = true }) _ _ refl after
numbered s edits.HookDel sound is after = untouched s (record s { hooked = false }) _ _ refl after
numbered s (edits.FilterAdd line) sound is after = filter_add_numbered s line sound
numbered s (edits.FilterReplace line) sound is after =
    replace_numbered s line _ (filter_row line.hook line.chain (unwrap_or line.pref 0) (unwrap_or line.handle 0) s.rows) sound is.0 refl
numbered s (edits.FilterDel hook protocol chain pref handle) sound is after = del_numbered s hook protocol chain pref handle after
numbered s (edits.ActionAdd action) sound is after = unless_numbered s _ (make_given s action action.params) (make_numbered s action action.params sound)
numbered s (edits.ActionChange action) sound is after = change_numbered s action (unwrap_or action.index 0) sound
numbered s (edits.ActionDel kind index) sound is after = untouched s (record s { actions = filter (λ action. not (is_named kind index action)) s.actions }) _ _ refl after

pub step_numbered : (s : State) (edit : Edit) → Sound s → IsLine edit → StepsNumbered s (step s edit)
step_numbered s edit sound is = numbered s edit sound is (step_sound s edit sound is)
