-- A row more goes to the end, past rows of other masks.
use Rattle.std.proofs.Common.{◌≡◌, ℕ, List, [], ◌∷◌, ◌++◌, map, Some, refl, sym, ◌∙◌, ap, subst}
use Rattle.std.specs.List.{flat_map}
use Rattle.std.proofs.lemmas.List.{append_assoc, map-append}
use Rattle.tc_base.specs.declared.hook.Hook.{Hook}
use Rattle.filter_state.specs.States.{Row}
use Rattle.filter_state.specs.Sound.{Each, EachPair, GoTogether}
use Rattle.filter_state.specs.Order.{SameRows, keep, exchange, joined}
use Rattle.state_laws.proofs.OfOrder.Same.{same_refl, append_same}
use Rattle.filter_index.specs.declared.filter.Filter.{Filter}
use Rattle.filter_tables.specs.Plain.{PlainMask, PlainTable}
use Rattle.filter_tables.specs.Places.{item_at, change_at}
use Rattle.filter_tables.specs.Changes.{more_filter, in_masks}
use Rattle.filter_tables.specs.Room.{AreRising}
use Rattle.filter_tables.specs.Rows.{BothHooks, tables_on, on_hook, row_of, rows_of_mask, rows_of, all_rows, BothWhole}
use Rattle.filter_tables.specs.Whole.{HasSome, IsFull, AreWhole}
use Rattle.row_laws.proofs.OfChanges.Whole.{IsEarlier, IsLower, HasFilters, whole_on}
use Rattle.filter_state.proofs.Pairs.{each_back, each_both, each_append}
use Rattle.row_laws.proofs.OfChanges.Lists.{CutAt, cut_at, each_item, pairs_back}
use Rattle.row_laws.proofs.OfChanges.Hooks.{rows_after, after_table, ahead_of_mask, after_mask, around_mask, around_change}
use Rattle.row_laws.proofs.OfChanges.Others.{IsOfOther, IsOutside, later_outside, after_outside, outside_other, later_masks}

pub to_end : (row : Row) (behind : List Row) → Each (IsOfOther row.mask_serial) behind → SameRows (row ∷ behind) (behind ++ (row ∷ []))
to_end row [] others = same_refl (row ∷ [])
to_end row (x ∷ behind) others = joined (exchange others.0) (keep (to_end row behind others.1))

-- rows at the end of some, past those behind them
pub put_past : (before rows : List Row) (row : Row) (behind : List Row) → Each (IsOfOther row.mask_serial) behind →
    SameRows (before ++ ((rows ++ (row ∷ [])) ++ behind)) ((before ++ (rows ++ behind)) ++ (row ∷ []))
put_past before rows row behind others =
    let P : List Row → Type 0 = λ xs. SameRows (before ++ xs) ((before ++ (rows ++ behind)) ++ (row ∷ [])) in
    let Q : List Row → Type 0 = λ xs. SameRows (before ++ (rows ++ (row ∷ behind))) xs in
    let end : before ++ (rows ++ (behind ++ (row ∷ []))) ≡ (before ++ (rows ++ behind)) ++ (row ∷ []) = simp append_assoc in
    subst P (sym (append_assoc rows (row ∷ []) behind))
    (subst Q end (append_same before (append_same rows (to_end row behind others))))

-- ---- the rows behind a mask that has a filter are of other masks
behind_some : (hook : Hook) (table : PlainTable) (mask : PlainMask) (filters : List Filter) (between behind : List Row) → HasSome filters →
    EachPair GoTogether (map (row_of hook table mask) filters ++ (between ++ behind)) → Each (IsOutside hook table) behind → Each (IsOfOther mask.serial) behind
behind_some hook table mask [] between behind some together outside = elim some [ ]
behind_some hook table mask (f ∷ filters) between behind some together outside =
    let row : Row = row_of hook table mask f in
    each_both (GoTogether row) (IsOutside hook table) (IsOfOther mask.serial)
    (λ y pair out. outside_other hook table row y refl refl refl pair out)
    behind (each_back (GoTogether row) between behind (each_back (GoTogether row) (map (row_of hook table mask) filters) (between ++ behind) together.0)) outside

pub table_outside : (hook : Hook) (both : BothHooks) (place : ℕ) (table : PlainTable) (cut : CutAt (tables_on hook both) place table) → AreRising (tables_on hook both) →
    Each (IsOutside hook table) (after_table hook both cut.back)
table_outside hook both place table cut rising =
    each_append (IsOutside hook table) (rows_of hook cut.back) (rows_after hook both)
    (later_outside hook table cut.back (pairs_back IsEarlier cut.front (table ∷ cut.back) (subst AreRising cut.whole rising)).0)
    (after_outside hook table both)

pub behind_others : (hook : Hook) (both : BothHooks) (place at : ℕ) (table : PlainTable) (mask : PlainMask) (cut : CutAt (tables_on hook both) place table) (inner : CutAt table.masks at mask) →
    AreRising (tables_on hook both) → EachPair IsLower table.masks → HasSome mask.filters → EachPair GoTogether (all_rows both) →
    Each (IsOfOther mask.serial) (after_mask hook both cut.back table inner.back)
behind_others hook both place at table mask cut inner rising lower some together =
    let masks : List Row = flat_map (rows_of_mask hook table) inner.back in
    let tables : List Row = after_table hook both cut.back in
    each_append (IsOfOther mask.serial) masks tables
    (later_masks hook table mask.serial inner.back (pairs_back IsLower inner.front (mask ∷ inner.back) (subst (EachPair IsLower) inner.whole lower)).0)
    (behind_some hook table mask mask.filters masks tables some
    (pairs_back GoTogether (ahead_of_mask hook both cut.front table inner.front) (rows_of_mask hook table mask ++ (masks ++ tables))
    (subst (EachPair GoTogether) (around_mask hook both place at table mask cut inner) together))
    (table_outside hook both place table cut rising))

-- a filter more behind some of a mask
pub put_changed : (hook : Hook) (both : BothHooks) (place at : ℕ) (table : PlainTable) (mask : PlainMask) (filters : List Filter) (f : Filter)
    (cut : CutAt (tables_on hook both) place table) (inner : CutAt table.masks at mask) (change : PlainMask → PlainMask) →
    rows_of_mask hook table (change mask) ≡ map (row_of hook table mask) (filters ++ (f ∷ [])) →
    Each (IsOfOther mask.serial) (after_mask hook both cut.back table inner.back) →
    SameRows (all_rows (on_hook hook (change_at place (in_masks (change_at at change))) both))
    ((ahead_of_mask hook both cut.front table inner.front ++ (map (row_of hook table mask) filters ++ after_mask hook both cut.back table inner.back)) ++ (row_of hook table mask f ∷ []))
put_changed hook both place at table mask filters f cut inner change is others =
    let ahead : List Row = ahead_of_mask hook both cut.front table inner.front in
    let behind : List Row = after_mask hook both cut.back table inner.back in
    let row : Row = row_of hook table mask f in
    let P : List Row → Type 0 = λ rows. SameRows rows ((ahead ++ (map (row_of hook table mask) filters ++ behind)) ++ (row ∷ [])) in
    let e : all_rows (on_hook hook (change_at place (in_masks (change_at at change))) both) ≡ ahead ++ ((map (row_of hook table mask) filters ++ (row ∷ [])) ++ behind) =
    around_change hook both place at table mask cut inner change
    ∙ ap (λ rows. ahead ++ (rows ++ behind)) (is ∙ map-append (row_of hook table mask) filters (f ∷ [])) in
    subst P (sym e) (put_past ahead (map (row_of hook table mask) filters) row behind others)

pub put_rising : (both : BothHooks) (hook : Hook) (place at : ℕ) (table : PlainTable) (mask : PlainMask) (f : Filter) →
    AreRising (tables_on hook both) → EachPair IsLower table.masks → HasSome mask.filters → EachPair GoTogether (all_rows both) →
    item_at (tables_on hook both) place ≡ Some table → item_at table.masks at ≡ Some mask →
    SameRows (all_rows (on_hook hook (change_at place (in_masks (change_at at (more_filter f)))) both)) (all_rows both ++ (row_of hook table mask f ∷ []))
put_rising both hook place at table mask f rising lower some together there inside =
    let cut : CutAt (tables_on hook both) place table = cut_at (tables_on hook both) place table there in
    let inner : CutAt table.masks at mask = cut_at table.masks at mask inside in
    let P : List Row → Type 0 = λ rows. SameRows (all_rows (on_hook hook (change_at place (in_masks (change_at at (more_filter f)))) both)) (rows ++ (row_of hook table mask f ∷ [])) in
    subst P (sym (around_mask hook both place at table mask cut inner))
    (put_changed hook both place at table mask mask.filters f cut inner (more_filter f) refl
    (behind_others hook both place at table mask cut inner rising lower some together))

-- ---- the law
pub put_rows : (both : BothHooks) (hook : Hook) (place at : ℕ) (table : PlainTable) (mask : PlainMask) (f : Filter) →
    BothWhole both → EachPair GoTogether (all_rows both) → item_at (tables_on hook both) place ≡ Some table → item_at table.masks at ≡ Some mask →
    SameRows (all_rows (on_hook hook (change_at place (in_masks (change_at at (more_filter f)))) both)) (all_rows both ++ (row_of hook table mask f ∷ []))
put_rows both hook place at table mask f whole together there inside =
    let tables : AreWhole (tables_on hook both) = whole_on hook both whole in
    let full : IsFull table = each_item IsFull (tables_on hook both) place table there tables.full in
    put_rising both hook place at table mask f tables.rising full.rising (each_item HasFilters table.masks at mask inside full.each) together there inside
