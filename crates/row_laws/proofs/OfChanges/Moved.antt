-- A filter that leaves its place for the end of a mask is a row taken out and a row more.
use Rattle.std.proofs.Common.{◌≡◌, ℕ, ◌<◌, ◌==◌, Bool, true, false, not, List, [], ◌∷◌, ◌++◌, map, find, Some, refl, sym, ◌∙◌, ap, subst}
use Rattle.std.specs.List.{flat_map}
use Rattle.std.proofs.lemmas.Bool.{false≢true}
use Rattle.std.proofs.lemmas.Option.{same_Some}
use Rattle.tc_base.specs.declared.hook.Hook.{Hook}
use Rattle.filter_state.specs.States.{Row}
use Rattle.filter_state.specs.Sound.{Each, EachPair, GoTogether}
use Rattle.filter_state.specs.Steps.{without_row}
use Rattle.filter_state.specs.Order.{SameRows}
use Rattle.filter_index.specs.declared.filter.Filter.{Filter}
use Rattle.filter_index.specs.Listed as listed
use Rattle.filter_tables.specs.Plain.{PlainMask, PlainTable}
use Rattle.filter_tables.specs.Places.{item_at, change_at}
use Rattle.filter_tables.specs.Changes.{less_filter, more_filter, new_mask, moved, moved_out, in_masks}
use Rattle.filter_tables.specs.Room.{AreRising}
use Rattle.filter_tables.specs.Whole.{IsFull, AreWhole}
use Rattle.filter_tables.specs.Rows.{BothHooks, tables_on, on_hook, row_of, rows_of_mask, all_rows, BothWhole}
use Rattle.row_laws.proofs.OfChanges.Lists.{CutAt, cut_at, each_item}
use Rattle.row_laws.proofs.OfChanges.Hooks.{ahead_of_mask, after_mask, around_change}
use Rattle.row_laws.proofs.OfChanges.Others.{itself}
use Rattle.filter_state.proofs.Pairs.{each_filter, pairs_filter}
use Rattle.row_laws.proofs.OfChanges.Together.{same_number, by_serial}
use Rattle.row_laws.proofs.OfChanges.Put.{behind_others, put_changed, put_rising}
use Rattle.row_laws.proofs.OfChanges.Whole.{HasFilters, whole_on, lower_changed, early_changed}
use Rattle.row_laws.proofs.OfChanges.FilterTaken.{row_left}
use Rattle.row_laws.proofs.OfChanges.MaskPut.{IsBelow, new_mask_rows}
use Rattle.row_laws.proofs.OfChanges.Twice.{tables_changed, change_twice, item_changed, item_elsewhere, rows_twice}
use Rattle.row_laws.proofs.OfChanges.Swept.{swept_rows, alike_rows, alike_on}

-- the tables after the filter was taken out of its mask, before that mask may go
abbrev pub taken_from : Hook → ℕ → ℕ → ℕ → BothHooks → BothHooks
taken_from hook place from handle both = on_hook hook (change_at place (in_masks (change_at from (less_filter handle)))) both

abbrev pub less_in : ℕ → ℕ → PlainTable → PlainTable
less_in from handle table = in_masks (change_at from (less_filter handle)) table

table_left : (hook : Hook) (place from handle : ℕ) (both : BothHooks) (table : PlainTable) → item_at (tables_on hook both) place ≡ Some table →
    item_at (tables_on hook (taken_from hook place from handle both)) place ≡ Some (less_in from handle table)
table_left hook place from handle both table there =
    ap (λ tables. item_at tables place) (tables_changed hook (change_at place (less_in from handle)) both)
    ∙ item_changed (less_in from handle) place (tables_on hook both) table there

-- ---- to the end of another mask
to_other : (both : BothHooks) (hook : Hook) (place from to : ℕ) (table : PlainTable) (mask other : PlainMask) (old new : Filter) → (from ≡ to → ⊥) →
    BothWhole both → EachPair GoTogether (all_rows both) → item_at (tables_on hook both) place ≡ Some table → item_at table.masks from ≡ Some mask →
    find (listed.has_handle new.handle) mask.filters ≡ Some old → item_at table.masks to ≡ Some other →
    SameRows (all_rows (on_hook hook (change_at place (in_masks (moved from to new))) both)) (without_row (row_of hook table mask old) (all_rows both) ++ (row_of hook table other new ∷ []))
to_other both hook place from to table mask other old new differ whole together there inside found goal =
    let tables : AreWhole (tables_on hook both) = whole_on hook both whole in
    let full : IsFull table = each_item IsFull (tables_on hook both) place table there tables.full in
    let left : BothHooks = taken_from hook place from new.handle both in
    let gone : List Row = without_row (row_of hook table mask old) (all_rows both) in
    let row : Row = row_of hook table other new in
    let is : all_rows left ≡ gone = row_left both hook place from new.handle table mask old together there inside found in
    let less : PlainMask → PlainMask = less_filter new.handle in
    let P : List Row → Type 0 = λ rows. SameRows rows (gone ++ (row ∷ [])) in
    let Q : List Row → Type 0 = λ rows. SameRows (all_rows (on_hook hook (change_at place (in_masks (change_at to (more_filter new)))) left)) (rows ++ (row ∷ [])) in
    subst P (sym (rows_twice hook place from (change_at from less) (change_at to (more_filter new)) both))
    (subst Q is
    (put_rising left hook place to (less_in from new.handle table) other new
    (subst AreRising (sym (tables_changed hook (change_at place (less_in from new.handle)) both)) (early_changed place (change_at from less) (tables_on hook both) tables.rising))
    (lower_changed from less (λ m. refl) table.masks full.rising)
    (each_item HasFilters table.masks to other goal full.each)
    (subst (EachPair GoTogether) (sym is) (pairs_filter GoTogether (λ row. not (by_serial (row_of hook table mask old) row)) (all_rows both) together))
    (table_left hook place from new.handle both table there)
    (item_elsewhere less from to table.masks differ ∙ goal)))

-- ---- to the end of its own
within : (both : BothHooks) (hook : Hook) (place at : ℕ) (table : PlainTable) (mask : PlainMask) (old new : Filter) →
    BothWhole both → EachPair GoTogether (all_rows both) → item_at (tables_on hook both) place ≡ Some table → item_at table.masks at ≡ Some mask →
    find (listed.has_handle new.handle) mask.filters ≡ Some old →
    SameRows (all_rows (on_hook hook (change_at place (in_masks (moved at at new))) both)) (without_row (row_of hook table mask old) (all_rows both) ++ (row_of hook table mask new ∷ []))
within both hook place at table mask old new whole together there inside found =
    let tables : AreWhole (tables_on hook both) = whole_on hook both whole in
    let full : IsFull table = each_item IsFull (tables_on hook both) place table there tables.full in
    let cut : CutAt (tables_on hook both) place table = cut_at (tables_on hook both) place table there in
    let inner : CutAt table.masks at mask = cut_at table.masks at mask inside in
    let gone : List Row = without_row (row_of hook table mask old) (all_rows both) in
    let row : Row = row_of hook table mask new in
    let less : PlainMask → PlainMask = less_filter new.handle in
    let change : PlainMask → PlainMask = λ m. more_filter new (less m) in
    let kept : List Filter = listed.without new.handle mask.filters in
    let one : all_rows (on_hook hook (change_at place (in_masks (moved at at new))) both) ≡ all_rows (on_hook hook (change_at place (in_masks (change_at at change))) both) =
    alike_on hook both (change_at place (in_masks (moved at at new))) (change_at place (in_masks (change_at at change)))
    (alike_rows hook (moved at at new) (change_at at change)
    (λ t. swept_rows hook t at (change_at at (more_filter new) (change_at at less t.masks)) ∙ sym (ap (flat_map (rows_of_mask hook t)) (change_twice less (more_filter new) at t.masks)))
    place (tables_on hook both)) in
    let is : ahead_of_mask hook both cut.front table inner.front ++ (map (row_of hook table mask) kept ++ after_mask hook both cut.back table inner.back) ≡ gone =
    sym (around_change hook both place at table mask cut inner less) ∙ row_left both hook place at new.handle table mask old together there inside found in
    let P : List Row → Type 0 = λ rows. SameRows rows (gone ++ (row ∷ [])) in
    let Q : List Row → Type 0 = λ rows. SameRows (all_rows (on_hook hook (change_at place (in_masks (change_at at change))) both)) (rows ++ (row ∷ [])) in
    subst P (sym one)
    (subst Q is
    (put_changed hook both place at table mask kept new cut inner change refl
    (behind_others hook both place at table mask cut inner tables.rising full.rising (each_item HasFilters table.masks at mask inside full.each) together)))

to_either : (b : Bool) (both : BothHooks) (hook : Hook) (place from to : ℕ) (table : PlainTable) (mask other : PlainMask) (old new : Filter) → (from == to) ≡ b →
    BothWhole both → EachPair GoTogether (all_rows both) → item_at (tables_on hook both) place ≡ Some table → item_at table.masks from ≡ Some mask →
    find (listed.has_handle new.handle) mask.filters ≡ Some old → item_at table.masks to ≡ Some other →
    SameRows (all_rows (on_hook hook (change_at place (in_masks (moved from to new))) both)) (without_row (row_of hook table mask old) (all_rows both) ++ (row_of hook table other new ∷ []))
to_either true both hook place from to table mask other old new test whole together there inside found goal =
    let same : from ≡ to = same_number from to test in
    let one : mask ≡ other = same_Some mask other (sym inside ∙ ap (item_at table.masks) same ∙ goal) in
    let P : ℕ → Type 0 = λ n. SameRows (all_rows (on_hook hook (change_at place (in_masks (moved from n new))) both)) (without_row (row_of hook table mask old) (all_rows both) ++ (row_of hook table other new ∷ [])) in
    let Q : PlainMask → Type 0 = λ m. SameRows (all_rows (on_hook hook (change_at place (in_masks (moved from from new))) both)) (without_row (row_of hook table mask old) (all_rows both) ++ (row_of hook table m new ∷ [])) in
    subst P same (subst Q one (within both hook place from table mask old new whole together there inside found))
to_either false both hook place from to table mask other old new test whole together there inside found goal =
    to_other both hook place from to table mask other old new (λ same. false≢true (sym test ∙ ap (λ n. n == to) same ∙ itself to)) whole together there inside found goal

pub moved_rows : (both : BothHooks) (hook : Hook) (place from to : ℕ) (table : PlainTable) (mask other : PlainMask) (old new : Filter) →
    BothWhole both → EachPair GoTogether (all_rows both) → item_at (tables_on hook both) place ≡ Some table → item_at table.masks from ≡ Some mask →
    find (listed.has_handle new.handle) mask.filters ≡ Some old → item_at table.masks to ≡ Some other →
    SameRows (all_rows (on_hook hook (change_at place (in_masks (moved from to new))) both)) (without_row (row_of hook table mask old) (all_rows both) ++ (row_of hook table other new ∷ []))
moved_rows both hook place from to table mask other old new = to_either (from == to) both hook place from to table mask other old new refl

-- ---- to a new mask
pub moved_out_rows : (both : BothHooks) (hook : Hook) (place from serial : ℕ) (words : List ℕ) (table : PlainTable) (mask : PlainMask) (old new : Filter) →
    BothWhole both → EachPair GoTogether (all_rows both) → Each (λ (row : Row). row.mask_serial < serial) (all_rows both) →
    item_at (tables_on hook both) place ≡ Some table → item_at table.masks from ≡ Some mask → find (listed.has_handle new.handle) mask.filters ≡ Some old →
    SameRows (all_rows (on_hook hook (change_at place (in_masks (moved_out from serial words new))) both))
    (without_row (row_of hook table mask old) (all_rows both) ++ (row_of hook table (new_mask serial words new) new ∷ []))
moved_out_rows both hook place from serial words table mask old new whole together below there inside found =
    let left : BothHooks = taken_from hook place from new.handle both in
    let gone : List Row = without_row (row_of hook table mask old) (all_rows both) in
    let row : Row = row_of hook table (new_mask serial words new) new in
    let is : all_rows left ≡ gone = row_left both hook place from new.handle table mask old together there inside found in
    let more : List PlainMask → List PlainMask = λ masks. masks ++ (new_mask serial words new ∷ []) in
    let P : List Row → Type 0 = λ rows. SameRows rows (gone ++ (row ∷ [])) in
    let Q : List Row → Type 0 = λ rows. SameRows (all_rows (on_hook hook (change_at place (in_masks more)) left)) (rows ++ (row ∷ [])) in
    subst P (sym (rows_twice hook place from (change_at from (less_filter new.handle)) more both))
    (subst Q is
    (new_mask_rows left hook place serial words (less_in from new.handle table) new
    (subst (Each (IsBelow serial)) (sym is) (each_filter (IsBelow serial) (λ row. not (by_serial (row_of hook table mask old) row)) (all_rows both) below))
    (table_left hook place from new.handle both table there)))
