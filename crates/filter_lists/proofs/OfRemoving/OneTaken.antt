-- A filter that leaves is one row that leaves.
use Rattle.std.proofs.Common.{◌≡◌, ℕ, ◌&&◌, Bool, Some, length, ap, ◌∙◌, subst}
use Rattle.std.specs.Prelude.{find}
use Rattle.tc_base.specs.declared.hook.Hook.{Hook}
use Rattle.filter_state.specs.States.{Row}
use Rattle.filter_state.specs.Sound.{places}
use Rattle.filter_state.specs.Tables.{in_table, has_handle}
use Rattle.filter_index.specs.declared.filter.Filter.{Filter}
use Rattle.filter_index.specs.Listed as listed
use Rattle.filter_tables.specs.Plain.{PlainMask, PlainTable}
use Rattle.filter_tables.specs.Places.{item_at}
use Rattle.filter_tables.specs.Changes.{has_handle_in, removed}
use Rattle.filter_tables.specs.Rows.{BothHooks, tables_on, on_hook}
use Rattle.filter_tables.proofs.Moves.{item_there}
use Rattle.row_laws.proofs.OfChanges.FilterTaken.{filter_rows_taken, filter_rows_gone}
use Rattle.row_laws.proofs.OfChanges.Sweeping.{removed_whole}
use Rattle.hook_lists.specs.declared.kept.Kept.{Kept}
use Rattle.hook_lists.specs.States.{both_of, AreKept}
use Rattle.hook_lists.proofs.Sought.{place_within}
use Rattle.filter_lists.specs.declared.removing.removal.Removal.TheVariants as removals
use Rattle.filter_lists.specs.OfRemoving.Removals.{IsReady}
use Rattle.filter_lists.proofs.OfRemoving.Going.{serials_one}
use Rattle.filter_lists.proofs.OfRemoving.Leaves.{Leaves}

-- the rows of that chain and pref with that handle
abbrev pub one_row : Hook → ℕ → ℕ → ℕ → Row → Bool
one_row hook chain pref handle row = in_table hook chain pref row && has_handle handle row

-- the filter that stands there
abbrev pub IsTaken : Kept → Hook → ℕ → ℕ → ℕ → Filter → Type 0
IsTaken kept hook table mask handle f =
    (t : PlainTable) → item_at (tables_on hook (both_of kept)) table ≡ Some t → (m : PlainMask) → item_at t.masks mask ≡ Some m → find (listed.has_handle handle) m.filters ≡ Some f

its_own : (kept : Kept) (hook : Hook) (table mask handle : ℕ) (t : PlainTable) (m : PlainMask) (f : Filter) → AreKept kept →
    item_at (tables_on hook (both_of kept)) table ≡ Some t → item_at t.masks mask ≡ Some m → find (listed.has_handle handle) m.filters ≡ Some f →
    Leaves kept (on_hook hook (removed table mask handle) (both_of kept)) (one_row hook t.chain t.pref handle) f.actions 1
its_own kept hook table mask handle t m f are there inside found =
    let gone = filter_rows_gone (both_of kept) hook table mask handle t m f are.whole are.sound.together there inside found in
    record {
      rows = filter_rows_taken (both_of kept) hook table mask handle t m f are.whole are.sound.together there inside found;
      its_places = ap places gone ∙ serials_one f;
      count = ap length gone;
      whole = removed_whole (both_of kept) hook table mask handle are.whole;
    }

pub filter_leaves : (kept : Kept) (hook : Hook) (chain pref handle table mask : ℕ) (f : Filter) → AreKept kept → IsReady kept (removals.OneFilter hook chain pref handle table mask) →
    IsTaken kept hook table mask handle f → Leaves kept (on_hook hook (removed table mask handle) (both_of kept)) (one_row hook chain pref handle) f.actions 1
filter_leaves kept hook chain pref handle table mask f are (t, there, its_chain, its_pref, at) taken =
    let inside = item_there t.masks mask (place_within (has_handle_in handle) t.masks mask at) in
    let both : BothHooks = on_hook hook (removed table mask handle) (both_of kept) in
    subst (λ n. Leaves kept both (one_row hook chain n handle) f.actions 1) its_pref
    (subst (λ n. Leaves kept both (one_row hook n t.pref handle) f.actions 1) its_chain
    (its_own kept hook table mask handle t inside.0 f are there inside.1 (taken t there inside.0 inside.1)))
