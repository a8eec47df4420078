-- An edit makes one table and one mask at most.
use Rattle.std.proofs.Common.{◌≡◌, ℕ, ◌+◌, ◌≤◌, Bool, true, false, List, Option, Some, None, Ok, Err, refl, arith}
use Rattle.std.specs.Prelude.{Result, filter, not, ◌==◌, ◌&&◌, if◌then◌else◌}
use Rattle.std.specs.Str.{bytes_eq}
use Rattle.std.specs.Option.{unwrap_or}
use Rattle.tc_base.specs.declared.hook.Hook.{Hook}
use Rattle.tc_base.specs.declared.hook.Proto.{Proto}
use Rattle.act_kinds.specs.declared.params.Params.{Params}
use Rattle.filter_state.specs.declared.action_line.ActionLine.{ActionLine}
use Rattle.filter_state.specs.declared.edit.Edit.{Edit}
use Rattle.filter_state.specs.declared.edit.Edit.TheVariants as edits
use Rattle.filter_state.specs.declared.edit.FilterLine.{FilterLine}
use Rattle.filter_state.specs.declared.refusal.Done.{Done}
use Rattle.filter_state.specs.declared.refusal.Refusal.{Refusal}
use Rattle.filter_state.specs.States.{Row, State}
use Rattle.filter_state.specs.Actions.{is_live, is_named, index_or_free, made_more, Resolved, and_then}
use Rattle.filter_state.specs.Tables.{filter_row, in_table, has_handle}
use Rattle.filter_state.specs.Steps.{Stepped, unless, raised, with_row, with_actions, made_of, taken_out, filter_added, filter_replaced, resolved_for, pref_for, add_resolved, add_at, filter_add, with_replaced, replace_resolved, replace_at, replace_or_add, filter_del, make_given, change_given, change_at, step, with_new_actions, without_row, row_of, mask_serial_for}

-- both counts are raised by one at most
pub record IsNear (s next : State) : Type 0 where
  pub tables : next.tables_made ≤ s.tables_made + 1
  pub masks : next.masks_made ≤ s.masks_made + 1

abbrev pub StepsNear : State → Stepped → Type 0
StepsNear s (Ok (next, done)) = IsNear s next
StepsNear s (Err refusal) = Unit {0}

unless_near : (s : State) (o : Option Refusal) (rest : Stepped) → StepsNear s rest → StepsNear s (unless o rest)
unless_near s (Some refusal) rest near = tt
unless_near s None rest near = near

-- the counts are as they were
untouched : (s next : State) → next.tables_made ≡ s.tables_made → next.masks_made ≡ s.masks_made → (o : Option Refusal) (done : Done) → StepsNear s (unless o (Ok (next, done)))
untouched s next tables masks o done = unless_near s o (Ok (next, done)) (record { tables = omega arith; masks = omega arith })

then_near : {A : Type 0} (s : State) (more : A → Stepped) (it : Result A Refusal) → ((a : A) → StepsNear s (more a)) → StepsNear s (and_then more it)
then_near s more (Ok a) near = near a
then_near s more (Err refusal) near = tt

raised_near : (made serial : ℕ) → raised made serial ≤ made + 1
raised_near made serial = by_test (serial == made + 1) refl
  where
    by_test : (b : Bool) → (serial == made + 1) ≡ b → (if b then serial else made) ≤ made + 1
    by_test true is = grind arith
    by_test false is = omega arith

-- ---- filters
filter_added_near : (s : State) (line : FilterLine) (pref : ℕ) (r : Resolved) → StepsNear s (filter_added s line pref r)
filter_added_near s line pref r = record { tables = raised_near s.tables_made _; masks = raised_near s.masks_made _ }

filter_add_near : (s : State) (line : FilterLine) → StepsNear s (filter_add s line)
filter_add_near s line =
    unless_near s _ (and_then (add_at s line) (pref_for s line.hook line.chain line.pref)) (then_near s (add_at s line) (pref_for s line.hook line.chain line.pref) (λ pref.
    unless_near s _ (and_then (add_resolved s line pref) (resolved_for s line.actions)) (then_near s (add_resolved s line pref) (resolved_for s line.actions) (λ r.
    unless_near s _ (filter_added s line pref r) (filter_added_near s line pref r)))))

replaced_near : (s : State) (line : FilterLine) (old : Row) (serials : List ℕ) → IsNear s (with_replaced s line old serials)
replaced_near s line old serials = by_test (bytes_eq old.mask line.mask.words && bytes_eq old.key line.key.words)
  where
    by_test : (b : Bool) → IsNear s (if b then record s { rows = with_new_actions old serials s.rows }
        else with_row (record s { rows = without_row old s.rows }) (row_of line old.pref old.table (mask_serial_for s line old) old.handle serials))
    by_test true = record { tables = omega arith; masks = omega arith }
    by_test false = record { tables = raised_near s.tables_made _; masks = raised_near s.masks_made _ }

replace_at_near : (s : State) (line : FilterLine) (old : Row) → StepsNear s (replace_at s line old)
replace_at_near s line old =
    unless_near s _ (and_then (replace_resolved s line old) (resolved_for s line.actions)) (then_near s (replace_resolved s line old) (resolved_for s line.actions) (λ r.
    unless_near s _ (filter_replaced s line old r) (replaced s line old r)))
  where
    replaced : (s : State) (line : FilterLine) (old : Row) (r : Resolved) → StepsNear s (filter_replaced s line old r)
    replaced s line old r = let near : IsNear s (with_replaced s line old r.serials) = replaced_near s line old r.serials in record { tables = near.tables; masks = near.masks }

replace_near : (s : State) (line : FilterLine) (old : Option Row) → StepsNear s (replace_or_add s line old)
replace_near s line (Some old) = replace_at_near s line old
replace_near s line None = filter_add_near s line

del_near : (s : State) (hook : Hook) (protocol : Option Proto) (chain pref : ℕ) (handle : Option ℕ) → StepsNear s (filter_del s hook protocol chain pref handle)
del_near s hook protocol chain pref (Some handle) = untouched s (taken_out s (λ row. in_table hook chain pref row && has_handle handle row)) refl refl _ _
del_near s hook protocol chain pref None = untouched s (taken_out s (in_table hook chain pref)) refl refl _ _

-- ---- actions apart from filters
make_near : (s : State) (action : ActionLine) (given : Option Params) → StepsNear s (make_given s action given)
make_near s action (Some params) = untouched s (with_actions s (made_more (made_of s) params (index_or_free action.index action.kind s.actions) 0)) refl refl _ _
make_near s action None = tt

given_near : (s : State) (action : ActionLine) (index : ℕ) (given : Option Params) → StepsNear s (change_given s action index given)
given_near s action index (Some params) = record { tables = omega arith; masks = omega arith }
given_near s action index None = tt

change_near : (s : State) (action : ActionLine) (index : ℕ) → StepsNear s (change_at s action index)
change_near s action index = by_test (is_live action.kind index s.actions)
  where
    by_test : (b : Bool) → StepsNear s (if b then change_given s action index action.params else make_given s action action.params)
    by_test true = given_near s action index action.params
    by_test false = make_near s action action.params

pub step_near : (s : State) (edit : Edit) → StepsNear s (step s edit)
step_near s edits.HookAdd = untouched s (record s { hooked = true }) refl refl _ _
step_near s edits.HookDel = untouched s (record s { hooked = false }) refl refl _ _
step_near s (edits.FilterAdd line) = filter_add_near s line
step_near s (edits.FilterReplace line) = replace_near s line (filter_row line.hook line.chain (unwrap_or line.pref 0) (unwrap_or line.handle 0) s.rows)
step_near s (edits.FilterDel hook protocol chain pref handle) = del_near s hook protocol chain pref handle
step_near s (edits.ActionAdd action) = unless_near s _ (make_given s action action.params) (make_near s action action.params)
step_near s (edits.ActionChange action) = change_near s action (unwrap_or action.index 0)
step_near s (edits.ActionDel kind index) = untouched s (record s { actions = filter (λ action. not (is_named kind index action)) s.actions }) refl refl _ _
