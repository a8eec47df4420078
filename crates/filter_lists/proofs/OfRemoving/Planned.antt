-- What the step comes to, one refusal after the other, and once the table is found.
use Rattle.std.proofs.Common.{◌≡◌, ℕ, ◌&&◌, not, Option, Some, None, Ok, Err, is_some, refl, sym, ◌∙◌, ap, subst}
use Rattle.std.specs.List.{list_any}
use Rattle.tc_base.specs.declared.hook.Hook.{Hook}
use Rattle.tc_base.specs.declared.hook.Proto.{Proto}
use Rattle.filter_state.specs.declared.refusal.Done.TheVariants as dones
use Rattle.filter_state.specs.declared.refusal.Refusal.{Refusal}
use Rattle.filter_state.specs.declared.refusal.Refusal.TheVariants as refusals
use Rattle.filter_state.specs.States.{State}
use Rattle.filter_state.specs.Tables.{in_table, has_handle}
use Rattle.filter_state.specs.Refusals.{when, or_else, no_hook, protocol_clash_if, no_such_table, no_such_filter}
use Rattle.filter_state.specs.Steps.{Stepped, unless, taken_out, filter_del}
use Rattle.filter_tables.specs.Plain.{PlainTable}
use Rattle.filter_tables.specs.Places.{item_at, place_where}
use Rattle.filter_tables.specs.Changes.{has_handle_in, any_handle, is_table}
use Rattle.filter_tables.specs.Rows.{tables_on, all_rows}
use Rattle.row_laws.proofs.OfLookups.Found.{rows_any}
use Rattle.row_laws.proofs.OfLookups.Handles.{handle_found}
use Rattle.row_laws.proofs.OfLookups.Placed.{place_any}
use Rattle.hook_lists.specs.declared.kept.Kept.{Kept}
use Rattle.hook_lists.specs.States.{both_of, state_of, AreKept}
use Rattle.hook_lists.proofs.Sought.{its_names}
use Rattle.filter_lists.specs.declared.removing.removal.Removal.TheVariants as removals
use Rattle.filter_lists.specs.OfRemoving.Planning.{step_found}
use Rattle.filter_lists.specs.OfRemoving.Removals.{IsPlanned}

-- ---- the table
table_there : (kept : Kept) (hook : Hook) (chain pref : ℕ) (place : Option ℕ) → AreKept kept → place_where (is_table chain pref) (tables_on hook (both_of kept)) ≡ place →
    no_such_table (state_of kept) hook chain pref ≡ when (not (is_some place)) refusals.NoSuchTable
table_there kept hook chain pref place are found =
    ap (λ b. when (not b) refusals.NoSuchTable)
    (rows_any (both_of kept) hook chain pref are.whole ∙ sym (place_any (is_table chain pref) (tables_on hook (both_of kept))) ∙ ap (λ (o : Option ℕ). is_some o) found)

no_table_step : (s : State) (hook : Hook) (protocol : Option Proto) (chain pref : ℕ) (handle : Option ℕ) → no_hook s ≡ None → protocol_clash_if s hook chain pref protocol ≡ None →
    no_such_table s hook chain pref ≡ Some refusals.NoSuchTable → filter_del s hook protocol chain pref handle ≡ Err refusals.NoSuchTable
no_table_step s hook protocol chain pref (Some handle) hooked same missing =
    let done : Stepped = Ok (taken_out s (λ row. in_table hook chain pref row && has_handle handle row), dones.FilterGone) in
    let last : Option Refusal = no_such_filter s hook chain pref handle in
    ap (λ o. unless (or_else o (or_else (protocol_clash_if s hook chain pref protocol) (or_else (no_such_table s hook chain pref) last))) done) hooked
    ∙ ap (λ o. unless (or_else o (or_else (no_such_table s hook chain pref) last)) done) same
    ∙ ap (λ o. unless (or_else o last) done) missing
no_table_step s hook protocol chain pref None hooked same missing =
    let done : Stepped = Ok (taken_out s (in_table hook chain pref), dones.TableGone) in
    ap (λ o. unless (or_else o (or_else (protocol_clash_if s hook chain pref protocol) (no_such_table s hook chain pref))) done) hooked
    ∙ ap (λ o. unless (or_else o (no_such_table s hook chain pref)) done) same
    ∙ ap (λ o. unless o done) missing

found_step : (s : State) (hook : Hook) (protocol : Option Proto) (chain pref : ℕ) (handle : Option ℕ) → no_hook s ≡ None → protocol_clash_if s hook chain pref protocol ≡ None →
    no_such_table s hook chain pref ≡ None → filter_del s hook protocol chain pref handle ≡ step_found s hook chain pref handle
found_step s hook protocol chain pref (Some handle) hooked same there =
    let done : Stepped = Ok (taken_out s (λ row. in_table hook chain pref row && has_handle handle row), dones.FilterGone) in
    let last : Option Refusal = no_such_filter s hook chain pref handle in
    ap (λ o. unless (or_else o (or_else (protocol_clash_if s hook chain pref protocol) (or_else (no_such_table s hook chain pref) last))) done) hooked
    ∙ ap (λ o. unless (or_else o (or_else (no_such_table s hook chain pref) last)) done) same
    ∙ ap (λ o. unless (or_else o last) done) there
found_step s hook protocol chain pref None hooked same there =
    let done : Stepped = Ok (taken_out s (in_table hook chain pref), dones.TableGone) in
    ap (λ o. unless (or_else o (or_else (protocol_clash_if s hook chain pref protocol) (no_such_table s hook chain pref))) done) hooked
    ∙ ap (λ o. unless (or_else o (no_such_table s hook chain pref)) done) same
    ∙ ap (λ o. unless o done) there

pub refused_no_table : (kept : Kept) (hook : Hook) (protocol : Option Proto) (chain pref : ℕ) (handle : Option ℕ) → AreKept kept → no_hook (state_of kept) ≡ None →
    protocol_clash_if (state_of kept) hook chain pref protocol ≡ None → place_where (is_table chain pref) (tables_on hook (both_of kept)) ≡ None →
    IsPlanned kept (Err refusals.NoSuchTable) (filter_del (state_of kept) hook protocol chain pref handle)
refused_no_table kept hook protocol chain pref handle are hooked same missing =
    subst (IsPlanned kept (Err refusals.NoSuchTable))
    (sym (no_table_step (state_of kept) hook protocol chain pref handle hooked same (table_there kept hook chain pref None are missing))) refl

pub step_goes_on : (kept : Kept) (hook : Hook) (protocol : Option Proto) (chain pref place : ℕ) (handle : Option ℕ) → AreKept kept → no_hook (state_of kept) ≡ None →
    protocol_clash_if (state_of kept) hook chain pref protocol ≡ None → place_where (is_table chain pref) (tables_on hook (both_of kept)) ≡ Some place →
    step_found (state_of kept) hook chain pref handle ≡ filter_del (state_of kept) hook protocol chain pref handle
step_goes_on kept hook protocol chain pref place handle are hooked same found =
    sym (found_step (state_of kept) hook protocol chain pref handle hooked same (table_there kept hook chain pref (Some place) are found))

-- ---- a whole table
pub table_planned : (kept : Kept) (hook : Hook) (chain pref place : ℕ) (t : PlainTable) → place_where (is_table chain pref) (tables_on hook (both_of kept)) ≡ Some place →
    item_at (tables_on hook (both_of kept)) place ≡ Some t → IsPlanned kept (Ok (removals.WholeTable hook chain pref place)) (step_found (state_of kept) hook chain pref None)
table_planned kept hook chain pref place t found there =
    let names = its_names (tables_on hook (both_of kept)) chain pref place t found there in
    ((t, there, names.0, names.1), refl, refl)

-- ---- one filter
filter_there : (kept : Kept) (hook : Hook) (chain pref place handle : ℕ) (t : PlainTable) (at : Option ℕ) → AreKept kept →
    place_where (is_table chain pref) (tables_on hook (both_of kept)) ≡ Some place → item_at (tables_on hook (both_of kept)) place ≡ Some t →
    place_where (has_handle_in handle) t.masks ≡ at → no_such_filter (state_of kept) hook chain pref handle ≡ when (not (is_some at)) refusals.NoSuchFilter
filter_there kept hook chain pref place handle t at are found there inside =
    let names = its_names (tables_on hook (both_of kept)) chain pref place t found there in
    let its : list_any (λ row. in_table hook chain pref row && has_handle handle row) (all_rows (both_of kept)) ≡ any_handle handle t.masks =
    subst (λ n. list_any (λ row. in_table hook chain n row && has_handle handle row) (all_rows (both_of kept)) ≡ any_handle handle t.masks) names.1
    (subst (λ n. list_any (λ row. in_table hook n t.pref row && has_handle handle row) (all_rows (both_of kept)) ≡ any_handle handle t.masks) names.0
    (handle_found (both_of kept) hook place handle t are.whole there)) in
    ap (λ b. when (not b) refusals.NoSuchFilter) (its ∙ sym (place_any (has_handle_in handle) t.masks) ∙ ap (λ (o : Option ℕ). is_some o) inside)

pub refused_no_filter : (kept : Kept) (hook : Hook) (chain pref place handle : ℕ) (t : PlainTable) → AreKept kept →
    place_where (is_table chain pref) (tables_on hook (both_of kept)) ≡ Some place → item_at (tables_on hook (both_of kept)) place ≡ Some t →
    place_where (has_handle_in handle) t.masks ≡ None → IsPlanned kept (Err refusals.NoSuchFilter) (step_found (state_of kept) hook chain pref (Some handle))
refused_no_filter kept hook chain pref place handle t are found there inside =
    let done : Stepped = Ok (taken_out (state_of kept) (λ row. in_table hook chain pref row && has_handle handle row), dones.FilterGone) in
    subst (λ o. IsPlanned kept (Err refusals.NoSuchFilter) (unless o done)) (sym (filter_there kept hook chain pref place handle t None are found there inside)) refl

pub filter_planned : (kept : Kept) (hook : Hook) (chain pref place handle at : ℕ) (t : PlainTable) → AreKept kept →
    place_where (is_table chain pref) (tables_on hook (both_of kept)) ≡ Some place → item_at (tables_on hook (both_of kept)) place ≡ Some t →
    place_where (has_handle_in handle) t.masks ≡ Some at →
    IsPlanned kept (Ok (removals.OneFilter hook chain pref handle place at)) (step_found (state_of kept) hook chain pref (Some handle))
filter_planned kept hook chain pref place handle at t are found there inside =
    let names = its_names (tables_on hook (both_of kept)) chain pref place t found there in
    let done : Stepped = Ok (taken_out (state_of kept) (λ row. in_table hook chain pref row && has_handle handle row), dones.FilterGone) in
    subst (λ o. IsPlanned kept (Ok (removals.OneFilter hook chain pref handle place at)) (unless o done))
    (sym (filter_there kept hook chain pref place handle t (Some at) are found there inside)) ((t, there, names.0, names.1, inside), refl, refl)
