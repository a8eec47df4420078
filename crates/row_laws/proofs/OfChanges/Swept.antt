-- Masks and tables without filters spell no rows, so that none goes where they do.
use Rattle.std.proofs.Common.{◌≡◌, ℕ, zero, suc, List, [], ◌∷◌, ◌++◌, map, refl, sym, ◌∙◌, ap}
use Rattle.std.specs.Prelude.{if◌then◌else◌}
use Rattle.std.specs.List.{flat_map}
use Rattle.tc_base.specs.declared.hook.Hook.{Hook}
use Rattle.filter_index.specs.declared.filter.Filter.{Filter}
use Rattle.filter_tables.specs.Plain.{PlainMask, PlainTable}
use Rattle.filter_tables.specs.Places.{change_at}
use Rattle.filter_tables.specs.Changes.{is_none_left, less_filter, swept, taken, cleared, removed, in_masks}
use Rattle.filter_tables.specs.Rows.{BothHooks, tables_on, on_hook, row_of, rows_of_mask, rows_of_table, rows_of, all_rows}
use Rattle.row_laws.proofs.OfChanges.Hooks.{rows_ahead, rows_after, hook_changed}

-- ---- masks
swept_first : (hook : Hook) (t : PlainTable) (m : PlainMask) (masks : List PlainMask) (filters : List Filter) → m.filters ≡ filters →
    flat_map (rows_of_mask hook t) (if is_none_left filters then masks else m ∷ masks) ≡ rows_of_mask hook t m ++ flat_map (rows_of_mask hook t) masks
swept_first hook t m masks [] is = sym (ap (λ filters. map (row_of hook t m) filters ++ flat_map (rows_of_mask hook t) masks) is)
swept_first hook t m masks (f ∷ filters) is = refl

pub swept_rows : (hook : Hook) (t : PlainTable) (place : ℕ) (masks : List PlainMask) → flat_map (rows_of_mask hook t) (swept place masks) ≡ flat_map (rows_of_mask hook t) masks
swept_rows hook t place [] = refl
swept_rows hook t zero (m ∷ masks) = swept_first hook t m masks m.filters refl
swept_rows hook t (suc place) (m ∷ masks) = ap (λ rows. rows_of_mask hook t m ++ rows) (swept_rows hook t place masks)

-- ---- tables
cleared_first : (hook : Hook) (t : PlainTable) (tables : List PlainTable) (masks : List PlainMask) → t.masks ≡ masks →
    rows_of hook (if is_none_left masks then tables else t ∷ tables) ≡ rows_of_table hook t ++ rows_of hook tables
unfolding rows_of
cleared_first hook t tables [] is = sym (ap (λ masks. flat_map (rows_of_mask hook t) masks ++ rows_of hook tables) is)
cleared_first hook t tables (m ∷ masks) is = refl

cleared_rows : (hook : Hook) (place : ℕ) (tables : List PlainTable) → rows_of hook (cleared place tables) ≡ rows_of hook tables
unfolding rows_of
cleared_rows hook place [] = refl
cleared_rows hook zero (t ∷ tables) = cleared_first hook t tables t.masks refl
cleared_rows hook (suc place) (t ∷ tables) = ap (λ rows. rows_of_table hook t ++ rows) (cleared_rows hook place tables)

-- changes of the masks of a table that spell the same
pub alike_rows : (hook : Hook) (change other : List PlainMask → List PlainMask) →
    ((t : PlainTable) → flat_map (rows_of_mask hook t) (change t.masks) ≡ flat_map (rows_of_mask hook t) (other t.masks)) → (place : ℕ) (tables : List PlainTable) →
    rows_of hook (change_at place (in_masks change) tables) ≡ rows_of hook (change_at place (in_masks other) tables)
unfolding rows_of
alike_rows hook change other same place [] = refl
alike_rows hook change other same zero (t ∷ tables) = ap (λ rows. rows ++ rows_of hook tables) (same t)
alike_rows hook change other same (suc place) (t ∷ tables) = ap (λ rows. rows_of_table hook t ++ rows) (alike_rows hook change other same place tables)

pub alike_on : (hook : Hook) (both : BothHooks) (change other : List PlainTable → List PlainTable) →
    rows_of hook (change (tables_on hook both)) ≡ rows_of hook (other (tables_on hook both)) → all_rows (on_hook hook change both) ≡ all_rows (on_hook hook other both)
alike_on hook both change other same =
    hook_changed hook both change ∙ ap (λ rows. rows_ahead hook both ++ (rows ++ rows_after hook both)) same ∙ sym (hook_changed hook both other)

-- what is swept and cleared behind a filter that is taken out makes no difference to the rows
pub removed_rows : (hook : Hook) (both : BothHooks) (place at handle : ℕ) →
    all_rows (on_hook hook (removed place at handle) both) ≡ all_rows (on_hook hook (change_at place (in_masks (change_at at (less_filter handle)))) both)
removed_rows hook both place at handle =
    alike_on hook both (removed place at handle) (change_at place (in_masks (change_at at (less_filter handle))))
    (cleared_rows hook place (change_at place (in_masks (taken at handle)) (tables_on hook both))
    ∙ alike_rows hook (taken at handle) (change_at at (less_filter handle)) (λ t. swept_rows hook t at (change_at at (less_filter handle) t.masks)) place (tables_on hook both))
