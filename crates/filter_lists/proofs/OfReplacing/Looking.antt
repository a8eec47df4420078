-- What looking at a line tells of the step: refused for its first reason, or allowed.
use Rattle.std.proofs.Common.{◌≡◌, ℕ, ◌==◌, ◌&&◌, not, Bool, true, false, List, [], Option, Some, None, Result, Ok, Err, refl, sym, ◌∙◌, ap, subst, eqb-true}
use Rattle.std.specs.Prelude.{unwrap_or}
use Rattle.std.proofs.lemmas.Bool.{false≢true, and_parts}
use Rattle.std.proofs.lemmas.Option.{none-some, same_Some}
use Rattle.tc_base.specs.declared.hook.Hook.{Hook}
use Rattle.tc_base.specs.declared.hook.Proto.{Proto}
use Rattle.tc_base.specs.declared.hook.Proto.TheVariants as protocols
use Rattle.filter_state.specs.declared.edit.FilterLine.{FilterLine}
use Rattle.filter_state.specs.declared.refusal.Refusal.{Refusal}
use Rattle.filter_state.specs.declared.refusal.Refusal.TheVariants as refusals
use Rattle.filter_state.specs.States.{Row, State}
use Rattle.filter_state.specs.Actions.{Made, Resolved, and_then}
use Rattle.filter_state.specs.Tables.{in_hook, in_chain, in_table, has_handle, protocol_eq}
use Rattle.filter_state.specs.Refusals.{when, or_else, no_hook, protocol_clash, exists_but, masks_full, actions_full, counters_full}
use Rattle.filter_state.specs.Steps.{Stepped, unless, resolved_for, filter_replaced, replace_at}
use Rattle.filter_index.specs.declared.filter.Filter.{Filter}
use Rattle.filter_index.specs.Listed as listed
use Rattle.filter_tables.specs.Plain.{PlainMask, PlainTable}
use Rattle.filter_tables.specs.Places.{place_where}
use Rattle.filter_tables.specs.Changes.{is_table}
use Rattle.filter_tables.specs.Rows.{tables_on, row_of}
use Rattle.row_laws.proofs.OfLookups.Found.{whole_on}
use Rattle.row_laws.proofs.OfLookups.Among.{among_found}
use Rattle.action_plan.specs.declared.planned.PlannedAction.{PlannedAction}
use Rattle.action_plan.specs.Plans.{carried, serials_of, AreFit, PlanTold}
use Rattle.hook_lists.specs.declared.kept.Kept.{Kept}
use Rattle.hook_lists.specs.States.{both_of, state_of, AreKept}
use Rattle.hook_lists.proofs.Asked.{IsAt, clash_found}
use Rattle.filter_lists.specs.declared.replacing.replacement.Old.{Old}
use Rattle.filter_lists.specs.OfReplacing.Replacements.{old_row, IsFound, IsOld}
use Rattle.filter_lists.specs.OfReplacing.Planning.{refused_before, refused_after, resolved_to, IsAllowed, IsWithin, IsLooked}
use Rattle.filter_lists.proofs.OfReplacing.Seeking.{first_passes, table_place}

-- ---- the table's place
pub table_is_at : (kept : Kept) (old : Old) (t : PlainTable) (m : PlainMask) (f : Filter) → AreKept kept → IsOld kept old t m f → IsAt kept old.hook old.chain old.pref old.table t
table_is_at kept old t m f are is =
    let tables : List PlainTable = tables_on old.hook (both_of kept) in
    let place : place_where (is_table t.chain t.pref) tables ≡ Some old.table = table_place tables old.table t (whole_on old.hook (both_of kept) are.whole).rising is.table_stands in
    record {
      found = subst (λ n. place_where (is_table old.chain n) tables ≡ Some old.table) is.pref (subst (λ n. place_where (is_table n t.pref) tables ≡ Some old.table) is.chain place);
      there = is.table_stands;
    }

pub found_place : (kept : Kept) (line : FilterLine) (old : Old) → AreKept kept → IsFound kept line (Some old) →
    Some old.table ≡ place_where (is_table old.chain old.pref) (tables_on old.hook (both_of kept))
found_place kept line old are (t, m, f, is, hook, row) = sym (table_is_at kept old t m f are is).found

-- ---- the names of the row
its_chain : (kept : Kept) (line : FilterLine) (row : Row) → old_row (state_of kept) line ≡ Some row → row.chain ≡ line.chain
its_chain kept line row at =
    let passes = first_passes (λ r. in_table line.hook line.chain (unwrap_or line.pref 0) r && has_handle (unwrap_or line.handle 0) r) (state_of kept).rows row at in
    let named = and_parts (in_table line.hook line.chain (unwrap_or line.pref 0) row) (has_handle (unwrap_or line.handle 0) row) passes in
    let table = and_parts (in_chain line.hook line.chain row) (row.pref == unwrap_or line.pref 0) named.0 in
    let chain = and_parts (in_hook line.hook row) (row.chain == line.chain) table.0 in
    eqb-true row.chain line.chain chain.1

pub its_handle : (kept : Kept) (old : Old) (t : PlainTable) (m : PlainMask) (f : Filter) → IsOld kept old t m f → f.handle ≡ old.handle
its_handle kept old t m f is = eqb-true f.handle old.handle (among_found (listed.has_handle old.handle) m.filters f is.filter_stands).1

-- the step, by the names that the filter was found by
abbrev step_by : State → FilterLine → Row → Hook → ℕ → ℕ → ℕ → Stepped
step_by s line row hook chain pref handle =
    unless (refused_before s line hook chain pref handle) (and_then (λ (r : Resolved). unless (refused_after s line hook chain pref r) (filter_replaced s line row r)) (resolved_for s line.actions))

named_step : (kept : Kept) (line : FilterLine) (old : Old) (t : PlainTable) (m : PlainMask) (f : Filter) → IsOld kept old t m f → old.hook ≡ line.hook →
    old_row (state_of kept) line ≡ Some (row_of old.hook t m f) →
    replace_at (state_of kept) line (row_of old.hook t m f) ≡ step_by (state_of kept) line (row_of old.hook t m f) old.hook old.chain old.pref old.handle
named_step kept line old t m f is hook at =
    let s : State = state_of kept in
    let row : Row = row_of old.hook t m f in
    ap (λ h. step_by s line row h line.chain t.pref f.handle) (sym hook)
    ∙ ap (λ n. step_by s line row old.hook n t.pref f.handle) (sym (its_chain kept line row at) ∙ is.chain)
    ∙ ap (λ n. step_by s line row old.hook old.chain n f.handle) is.pref
    ∙ ap (λ n. step_by s line row old.hook old.chain old.pref n) (its_handle kept old t m f is)

found_step : (kept : Kept) (line : FilterLine) (old : Old) → IsFound kept line (Some old) → (row : Row) → old_row (state_of kept) line ≡ Some row →
    replace_at (state_of kept) line row ≡ step_by (state_of kept) line row old.hook old.chain old.pref old.handle
found_step kept line old (t, m, f, is, hook, at) row there =
    subst (λ r. replace_at (state_of kept) line r ≡ step_by (state_of kept) line r old.hook old.chain old.pref old.handle) (same_Some (row_of old.hook t m f) row (sym at ∙ there))
    (named_step kept line old t m f is hook at)

-- ---- what is told of the plan
pub told_err : (m : Made) (resolved : Result Resolved Refusal) (refusal : Refusal) → PlanTold m resolved (Err refusal) → resolved ≡ Err refusal
told_err m (Ok r) refusal told = absurd told
told_err m (Err why) refusal told = ap (λ (x : Refusal). Err x) (sym told)

pub told_ok : (m : Made) (resolved : Result Resolved Refusal) (plan : List PlannedAction) → PlanTold m resolved (Ok plan) →
    (resolved ≡ Ok (record { so_far = carried m plan; serials = serials_of plan })) × AreFit m plan
told_ok m (Ok r) plan told = (ap (λ (x : Resolved). Ok x) told.0, told.1)
told_ok m (Err why) plan told = absurd told

-- ---- refused
module _ (kept : Kept) (line : FilterLine) (old : Old) (found : IsFound kept line (Some old)) where
  abbrev after_by : Row → Resolved → Stepped
  after_by row r = unless (refused_after (state_of kept) line old.hook old.chain old.pref r) (filter_replaced (state_of kept) line row r)

  pub before_refused : (refusal : Refusal) → refused_before (state_of kept) line old.hook old.chain old.pref old.handle ≡ Some refusal → IsLooked kept line old (Err refusal)
  before_refused refusal e row at =
      found_step kept line old found row at ∙ ap (λ o. unless o (and_then (after_by row) (resolved_for (state_of kept) line.actions))) e

  pub resolving_refused : (refusal : Refusal) → refused_before (state_of kept) line old.hook old.chain old.pref old.handle ≡ None → resolved_for (state_of kept) line.actions ≡ Err refusal →
      IsLooked kept line old (Err refusal)
  resolving_refused refusal before e row at =
      found_step kept line old found row at
      ∙ ap (λ o. unless o (and_then (after_by row) (resolved_for (state_of kept) line.actions))) before
      ∙ ap (and_then (after_by row)) e

  pub after_refused : (plan : List PlannedAction) (refusal : Refusal) → refused_before (state_of kept) line old.hook old.chain old.pref old.handle ≡ None →
      resolved_for (state_of kept) line.actions ≡ Ok (resolved_to kept plan) → refused_after (state_of kept) line old.hook old.chain old.pref (resolved_to kept plan) ≡ Some refusal →
      IsLooked kept line old (Err refusal)
  after_refused plan refusal before resolved e row at =
      found_step kept line old found row at
      ∙ ap (λ o. unless o (and_then (after_by row) (resolved_for (state_of kept) line.actions))) before
      ∙ ap (and_then (after_by row)) resolved
      ∙ ap (λ o. unless o (filter_replaced (state_of kept) line row (resolved_to kept plan))) e

  step_passes : (plan : List PlannedAction) (row : Row) → old_row (state_of kept) line ≡ Some row → refused_before (state_of kept) line old.hook old.chain old.pref old.handle ≡ None →
      resolved_for (state_of kept) line.actions ≡ Ok (resolved_to kept plan) → refused_after (state_of kept) line old.hook old.chain old.pref (resolved_to kept plan) ≡ None →
      replace_at (state_of kept) line row ≡ filter_replaced (state_of kept) line row (resolved_to kept plan)
  step_passes plan row at before resolved after =
      found_step kept line old found row at
      ∙ ap (λ o. unless o (and_then (after_by row) (resolved_for (state_of kept) line.actions))) before
      ∙ ap (and_then (after_by row)) resolved
      ∙ ap (λ o. unless o (filter_replaced (state_of kept) line row (resolved_to kept plan))) after

-- ---- allowed
neither : (a b : Option Refusal) → or_else a b ≡ None → (a ≡ None) × (b ≡ None)
neither (Some refusal) b e = absurd (none-some refusal (sym e))
neither None b e = (refl, e)

same_protocol : (a b : Proto) → protocol_eq a b ≡ true → a ≡ b
same_protocol protocols.All protocols.All e = refl
same_protocol protocols.All (protocols.Ether b) e = absurd (false≢true e)
same_protocol (protocols.Ether a) protocols.All e = absurd (false≢true e)
same_protocol (protocols.Ether a) (protocols.Ether b) e = ap (λ n. protocols.Ether n) (eqb-true a b e)

no_clash : (b : Bool) (refusal : Refusal) → when (not b) refusal ≡ None → b ≡ true
no_clash true refusal e = refl
no_clash false refusal e = absurd (none-some refusal (sym e))

pub looked : (kept : Kept) (line : FilterLine) (old : Old) (plan : List PlannedAction) → AreKept kept → IsFound kept line (Some old) →
    refused_before (state_of kept) line old.hook old.chain old.pref old.handle ≡ None → (resolved_for (state_of kept) line.actions ≡ Ok (resolved_to kept plan)) × AreFit (resolved_to kept []).so_far plan →
    refused_after (state_of kept) line old.hook old.chain old.pref (resolved_to kept plan) ≡ None → IsLooked kept line old (Ok plan)
looked kept line old plan are found before resolved after =
    let s : State = state_of kept in
    let t : PlainTable = found.0 in
    let m : PlainMask = found.1 in
    let f : Filter = found.2 in
    let is : IsOld kept old t m f = found.3 in
    let at : old_row s line ≡ Some (row_of old.hook t m f) = found.5 in
    let later = neither (no_hook s) (or_else (protocol_clash s old.hook old.chain old.pref line.protocol) (exists_but s old.hook old.chain old.pref (Some old.handle) line.mask.words line.key.words)) before in
    let rest = neither (protocol_clash s old.hook old.chain old.pref line.protocol) (exists_but s old.hook old.chain old.pref (Some old.handle) line.mask.words line.key.words) later.1 in
    let few = neither (masks_full s old.hook old.chain old.pref line.mask.words) (or_else (actions_full (resolved_to kept plan).so_far) (counters_full (resolved_to kept plan).so_far)) after in
    let clash = sym (clash_found kept old.hook old.chain old.pref old.table t line.protocol are (table_is_at kept old t m f are is)) ∙ rest.0 in
    let allowed : IsAllowed kept line old t m f = record {
      stands = is;
      row = at;
      hook = found.4;
      chain = sym is.chain ∙ its_chain kept line (row_of old.hook t m f) at;
      protocol = same_protocol t.protocol line.protocol (no_clash (protocol_eq t.protocol line.protocol) (refusals.ProtocolClash t.protocol) clash);
      alone = rest.1;
    } in
    let within : IsWithin kept plan = record { fit = resolved.1; full = few.1 } in
    (t, m, f, allowed, within, step_passes kept line old found plan (row_of old.hook t m f) at before resolved.0 after)
