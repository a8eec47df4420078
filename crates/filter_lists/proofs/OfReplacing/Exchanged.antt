-- What `replace` owes once the filter was changed: its old actions can be let go, and the state is then the
-- step's.
use Rattle.std.proofs.Common.{◌≡◌, ℕ, ◌&&◌, Bool, List, option_map, refl, sym, ◌∙◌, ap, subst}
use Rattle.std.proofs.lemmas.List.{append-nil}
use Rattle.std.proofs.lemmas.Option.{same_Some}
use Rattle.filter_state.specs.States.{Row}
use Rattle.filter_state.specs.Sound.{places}
use Rattle.filter_state.specs.Tables.{in_table, has_handle}
use Rattle.filter_state.specs.Actions.{Made, all_unbound}
use Rattle.filter_state.specs.Order.{SameRows}
use Rattle.filter_index.specs.declared.filter.Filter.{Filter}
use Rattle.filter_tables.specs.Plain.{PlainMask, PlainTable}
use Rattle.filter_tables.specs.Rows.{tables_on, on_hook, row_of, all_rows, BothWhole}
use Rattle.row_laws.proofs.OfChanges.FilterTaken.{filter_rows_gone}
use Rattle.state_laws.proofs.OfOrder.Same.{length_same}
use Rattle.action_plan.specs.Bound.{AreBound}
use Rattle.action_plan.specs.Entries.{actions_of}
use Rattle.action_plan.specs.Plans.{made_of, carried}
use Rattle.hook_lists.specs.declared.kept.Kept.{Kept}
use Rattle.hook_lists.specs.States.{both_of, state_of, AreKept}
use Rattle.hook_lists.specs.Steps.{SameTables}
use Rattle.hook_lists.specs.Done.{IsDone}
use Rattle.hook_lists.proofs.Covered.{covered_bound}
use Rattle.hook_lists.proofs.Holding.{covered_gone}
use Rattle.hook_lists.proofs.Later.{bound_later}
use Rattle.filter_lists.specs.declared.replacing.replacement.Old.{Old}
use Rattle.filter_lists.specs.declared.replacing.replacement.Replacement.{Replacement}
use Rattle.filter_lists.specs.OfReplacing.Replacements.{state_after, answer_of, IsOld, IsReady}
use Rattle.filter_lists.specs.OfReplacing.Changing.{WereThere, tables_changed, masks_after, HasChanged}
use Rattle.filter_lists.proofs.OfReplacing.Turned.{TurnsTo, turns}

-- the new actions were bound and made, and then the filter was changed
pub record Changes (start bound mid : Kept) (r : Replacement) (gone : List ℕ) : Type 0 where
  pub same : SameTables start bound
  pub carried_out : made_of bound.actions ≡ carried (made_of start.actions) r.actions
  pub there : WereThere (tables_on r.old.hook (both_of bound)) r.old gone
  pub has : HasChanged (on_hook r.old.hook (tables_changed r.old r.change) (both_of bound)) (masks_after r.change bound.masks_made) bound mid

same_both : (old new : Kept) → SameTables old new → both_of new ≡ both_of old
same_both old new same =
    ap (λ tables. record { ingress = tables.tables; egress = new.egress.tables }) same.ingress ∙ ap (λ tables. record { ingress = old.ingress.tables; egress = tables.tables }) same.egress

-- ---- the old actions
its_actions : (start bound mid : Kept) (r : Replacement) (gone : List ℕ) (table : PlainTable) (mask : PlainMask) (filter : Filter) → Changes start bound mid r gone →
    IsOld start r.old table mask filter → gone ≡ filter.actions
its_actions start bound mid r gone table mask filter changes is =
    let there = subst (λ both. WereThere (tables_on r.old.hook both) r.old gone) (same_both start bound changes.same) changes.there in
    sym (same_Some filter.actions gone (ap (option_map (λ (f : Filter). f.actions)) (sym is.filter_stands) ∙ there table is.table_stands mask is.mask_stands))

bound_before : (start : Kept) (old : Old) (table : PlainTable) (mask : PlainMask) (filter : Filter) → AreKept start → IsOld start old table mask filter →
    AreBound filter.actions start.actions.entries
bound_before start old table mask filter are is =
    let gone : Row → Bool = λ row. in_table old.hook table.chain table.pref row && has_handle old.handle row in
    subst (λ serials. AreBound serials start.actions.entries)
    (ap places (filter_rows_gone (both_of start) old.hook old.table old.mask old.handle table mask filter are.whole are.sound.together is.table_stands is.mask_stands is.filter_stands)
    ∙ append-nil filter.actions)
    (covered_bound _ start.actions.entries (covered_gone (state_of start) gone are.sound))

pub old_bound : (start bound mid : Kept) (r : Replacement) (gone : List ℕ) (table : PlainTable) (mask : PlainMask) (filter : Filter) → AreKept start →
    IsReady start r table mask filter → Changes start bound mid r gone → AreBound gone mid.actions.entries
old_bound start bound mid r gone table mask filter are ready changes =
    subst (λ registry. AreBound gone registry.entries) (sym changes.has.actions)
    (subst (λ serials. AreBound serials bound.actions.entries) (sym (its_actions start bound mid r gone table mask filter changes ready.old))
    (bound_later filter.actions start bound.actions r.actions are (bound_before start r.old table mask filter are ready.old) changes.carried_out))

-- ---- the state
pub replaced : (start bound mid new : Kept) (r : Replacement) (gone : List ℕ) (table : PlainTable) (mask : PlainMask) (filter : Filter) → AreKept start →
    IsReady start r table mask filter → Changes start bound mid r gone → SameTables mid new → actions_of new.actions.entries ≡ all_unbound gone (actions_of mid.actions.entries) →
    new.actions.made ≡ mid.actions.made → IsDone new (answer_of r) (state_after (state_of start) (row_of r.old.hook table mask filter) r) (answer_of r)
replaced start bound mid new r gone table mask filter are ready changes same unbound made =
    let turned : TurnsTo start r.old table mask filter r.change = turns start r.old table mask filter r.change are ready.old ready.place in
    let has = changes.has in
    let first = changes.same in
    let tables : both_of new ≡ on_hook r.old.hook (tables_changed r.old r.change) (both_of start) =
    same_both mid new same ∙ has.tables ∙ ap (on_hook r.old.hook (tables_changed r.old r.change)) (same_both start bound first) in
    let next : List Row = (state_after (state_of start) (row_of r.old.hook table mask filter) r).rows in
    let rows : SameRows (all_rows (both_of new)) next = subst (λ b. SameRows (all_rows b) next) (sym tables) turned.rows in
    record {
      state = record {
        hooked = same.hooked ∙ has.hooked ∙ first.hooked ∙ turned.hooked;
        rows = rows;
        actions = unbound ∙ ap (λ registry. all_unbound gone (actions_of registry.entries)) has.actions ∙ ap (λ (m : Made). all_unbound gone m.actions) changes.carried_out
            ∙ ap (λ serials. all_unbound serials (carried (made_of start.actions) r.actions).actions) (its_actions start bound mid r gone table mask filter changes ready.old);
        tables_made = same.tables_made ∙ has.tables_made ∙ first.tables_made ∙ turned.tables_made;
        masks_made = same.masks_made ∙ has.masks_made ∙ ap (masks_after r.change) first.masks_made ∙ turned.masks_made;
        actions_made = made ∙ ap (λ registry. registry.made) has.actions ∙ ap (λ (m : Made). m.made) changes.carried_out;
      };
      answer = refl;
      whole = subst BothWhole (sym tables) turned.whole;
      filters = same.filters ∙ has.filters ∙ first.filters ∙ are.filters ∙ sym turned.count ∙ sym (length_same rows);
    }
