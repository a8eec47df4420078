-- A table that leaves is its rows that leave.
use Rattle.std.proofs.Common.{◌≡◌, ℕ, ◌<◌, ◌++◌, suc, zero, List, [], ◌∷◌, length, map, Some, refl, sym, ◌∙◌, ap, subst, arith}
use Rattle.std.specs.List.{flat_map}
use Rattle.std.proofs.lemmas.List.{length-append, length-map}
use Rattle.std.proofs.lemmas.Option.{none-some, same_Some}
use Rattle.tc_base.specs.declared.hook.Hook.{Hook}
use Rattle.filter_state.specs.States.{Row}
use Rattle.filter_state.specs.Sound.{places}
use Rattle.filter_state.specs.Tables.{in_table}
use Rattle.filter_index.specs.declared.filter.Filter.{Filter}
use Rattle.filter_tables.specs.Plain.{PlainMask, PlainTable}
use Rattle.filter_tables.specs.Places.{item_at, without_at}
use Rattle.filter_tables.specs.Rows.{BothHooks, tables_on, on_hook, row_of, rows_of_mask}
use Rattle.row_laws.proofs.OfChanges.TableTaken.{table_rows_taken, table_rows_gone}
use Rattle.row_laws.proofs.OfChanges.Whole.{table_whole}
use Rattle.hook_lists.specs.declared.kept.Kept.{Kept}
use Rattle.hook_lists.specs.States.{both_of, AreKept}
use Rattle.filter_lists.specs.declared.removing.removal.Removal.TheVariants as removals
use Rattle.filter_lists.specs.OfRemoving.Removals.{IsReady}
use Rattle.filter_lists.specs.OfRemoving.Leaving.{filters_in, serials_in}
use Rattle.filter_lists.proofs.OfRemoving.Leaves.{Leaves}

-- ---- places and counts of a table's rows
places_onto : (hook : Hook) (t : PlainTable) (m : PlainMask) (fs : List Filter) (rows : List Row) (gs : List Filter) → places rows ≡ serials_in gs →
    places (map (row_of hook t m) fs ++ rows) ≡ serials_in (fs ++ gs)
places_onto hook t m [] rows gs more = more
places_onto hook t m (f ∷ fs) rows gs more = ap (λ ns. f.actions ++ ns) (places_onto hook t m fs rows gs more)

masks_places : (hook : Hook) (t : PlainTable) (masks : List PlainMask) → places (flat_map (rows_of_mask hook t) masks) ≡ serials_in (filters_in masks)
masks_places hook t [] = refl
masks_places hook t (m ∷ masks) = places_onto hook t m m.filters (flat_map (rows_of_mask hook t) masks) (filters_in masks) (masks_places hook t masks)

masks_count : (hook : Hook) (t : PlainTable) (masks : List PlainMask) → length (flat_map (rows_of_mask hook t) masks) ≡ length (filters_in masks)
masks_count hook t [] = refl
masks_count hook t (m ∷ masks) =
    omega (
      arith,
      length-append (rows_of_mask hook t m) (flat_map (rows_of_mask hook t) masks),
      length-append m.filters (filters_in masks),
      length-map m.filters (row_of hook t m),
      masks_count hook t masks,
    )

-- ---- the table
its_own : (kept : Kept) (hook : Hook) (table : ℕ) (t : PlainTable) → AreKept kept → item_at (tables_on hook (both_of kept)) table ≡ Some t →
    Leaves kept (on_hook hook (without_at table) (both_of kept)) (in_table hook t.chain t.pref) (serials_in (filters_in t.masks)) (length (filters_in t.masks))
its_own kept hook table t are there =
    let gone = table_rows_gone (both_of kept) hook table t are.whole there in
    record {
      rows = table_rows_taken (both_of kept) hook table t are.whole there;
      its_places = ap places gone ∙ masks_places hook t t.masks;
      count = ap length gone ∙ masks_count hook t t.masks;
      whole = table_whole (both_of kept) hook table are.whole;
    }

pub table_leaves : (kept : Kept) (hook : Hook) (chain pref table : ℕ) (t : PlainTable) → AreKept kept → IsReady kept (removals.WholeTable hook chain pref table) →
    item_at (tables_on hook (both_of kept)) table ≡ Some t →
    Leaves kept (on_hook hook (without_at table) (both_of kept)) (in_table hook chain pref) (serials_in (filters_in t.masks)) (length (filters_in t.masks))
table_leaves kept hook chain pref table t are (own, there, its_chain, its_pref) at =
    let same : own ≡ t = same_Some own t (sym there ∙ at) in
    let both : BothHooks = on_hook hook (without_at table) (both_of kept) in
    subst (λ n. Leaves kept both (in_table hook chain n) (serials_in (filters_in t.masks)) (length (filters_in t.masks))) (ap (λ u. u.pref) (sym same) ∙ its_pref)
    (subst (λ n. Leaves kept both (in_table hook n t.pref) (serials_in (filters_in t.masks)) (length (filters_in t.masks))) (ap (λ u. u.chain) (sym same) ∙ its_chain)
    (its_own kept hook table t are at))

-- ---- a place that has something is within the list
pub item_within : {X : Type 0} (xs : List X) (place : ℕ) (x : X) → item_at xs place ≡ Some x → place < length xs
item_within [] place x at = absurd (none-some x at)
item_within (y ∷ xs) zero x at = omega arith
item_within (y ∷ xs) (suc place) x at = omega (arith, item_within xs place x at)
