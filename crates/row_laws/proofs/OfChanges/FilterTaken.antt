-- A filter taken out is its row taken out.
use Rattle.std.proofs.Common.{◌≡◌, ℕ, ◌==◌, ◌&&◌, not, Bool, true, false, cond, List, [], ◌∷◌, ◌++◌, map, find, filter, Some, refl, sym, ◌∙◌, ap, subst}
use Rattle.tc_base.specs.declared.hook.Hook.{Hook}
use Rattle.filter_state.specs.States.{Row}
use Rattle.filter_state.specs.Sound.{Each, EachPair, GoTogether}
use Rattle.filter_state.specs.Tables.{in_table, has_handle}
use Rattle.filter_state.specs.Steps.{with_new_actions, without_row}
use Rattle.filter_index.specs.declared.filter.Filter.{Filter}
use Rattle.filter_index.specs.Listed as listed
use Rattle.filter_tables.specs.Plain.{PlainMask, PlainTable}
use Rattle.filter_tables.specs.Places.{item_at, change_at}
use Rattle.filter_tables.specs.Changes.{less_filter, other_actions, removed, in_masks}
use Rattle.filter_tables.specs.Rows.{BothHooks, tables_on, on_hook, row_of, rows_of_mask, all_rows, BothWhole}
use Rattle.filter_state.proofs.Pairs.{each_weaker}
use Rattle.row_laws.proofs.OfChanges.Lists.{CutAt, cut_at, pairs_back, pairs_front}
use Rattle.row_laws.proofs.OfChanges.Hooks.{ahead_of_mask, after_mask, around_mask, around_change}
use Rattle.row_laws.proofs.OfChanges.Others.{inside, itself}
use Rattle.row_laws.proofs.OfChanges.Filters.{Fails, left_around, pass_between, filter_map, found_passes, changed_between, map_map}
use Rattle.row_laws.proofs.OfChanges.Together.{by_place, by_serial, fails_by_place, fails_by_serial, found_handle, around_found, one_with_handle}
use Rattle.row_laws.proofs.OfChanges.Swept.{removed_rows}

-- what holds of the rows around a filter that is found
around_fail : (q : Row → Bool) (both : BothHooks) (hook : Hook) (place at handle : ℕ) (table : PlainTable) (mask : PlainMask) (f : Filter)
    (cut : CutAt (tables_on hook both) place table) (inner : CutAt table.masks at mask) → EachPair GoTogether (all_rows both) → find (listed.has_handle handle) mask.filters ≡ Some f →
    ((y : Row) → GoTogether (row_of hook table mask f) y → Fails q y) →
    Each (Fails q) (ahead_of_mask hook both cut.front table inner.front) × Each (Fails q) (after_mask hook both cut.back table inner.back)
around_fail q both hook place at handle table mask f cut inner together found fail =
    let ahead : List Row = ahead_of_mask hook both cut.front table inner.front in
    let behind : List Row = after_mask hook both cut.back table inner.back in
    let all = around_found ahead behind hook table mask handle f (subst (EachPair GoTogether) (around_mask hook both place at table mask cut inner) together) found in
    (each_weaker (GoTogether (row_of hook table mask f)) (Fails q) fail ahead all.0, each_weaker (GoTogether (row_of hook table mask f)) (Fails q) fail behind all.1)

-- a test that finds the filter leaves the rows of the tables where it is taken out of its mask
filter_left : (q : Row → Bool) (both : BothHooks) (hook : Hook) (place at handle : ℕ) (table : PlainTable) (mask : PlainMask) (f : Filter) →
    EachPair GoTogether (all_rows both) → item_at (tables_on hook both) place ≡ Some table → item_at table.masks at ≡ Some mask → find (listed.has_handle handle) mask.filters ≡ Some f →
    ((y : Row) → GoTogether (row_of hook table mask f) y → Fails q y) → ((g : Filter) → q (row_of hook table mask g) ≡ listed.has_handle handle g) →
    all_rows (on_hook hook (change_at place (in_masks (change_at at (less_filter handle)))) both) ≡ filter (λ row. not (q row)) (all_rows both)
filter_left q both hook place at handle table mask f together there inside found fail own =
    let cut : CutAt (tables_on hook both) place table = cut_at (tables_on hook both) place table there in
    let inner : CutAt table.masks at mask = cut_at table.masks at mask inside in
    let ahead : List Row = ahead_of_mask hook both cut.front table inner.front in
    let behind : List Row = after_mask hook both cut.back table inner.back in
    let around = around_fail q both hook place at handle table mask f cut inner together found fail in
    around_change hook both place at table mask cut inner (less_filter handle)
    ∙ sym (ap (filter (λ row. not (q row))) (around_mask hook both place at table mask cut inner)
    ∙ left_around q ahead (rows_of_mask hook table mask) behind around.0 around.1
    ∙ ap (λ rows. ahead ++ (rows ++ behind)) (filter_map (row_of hook table mask) (λ row. not (q row)) (λ g. not (listed.has_handle handle g)) (λ g. ap not (own g)) mask.filters))

-- ---- the test by the place of the table
place_fails : (hook : Hook) (table : PlainTable) (mask : PlainMask) (handle : ℕ) (f : Filter) → find (listed.has_handle handle) mask.filters ≡ Some f →
    (y : Row) → GoTogether (row_of hook table mask f) y → Fails (by_place hook table handle) y
place_fails hook table mask handle f found y pair =
    subst (λ n. by_place hook table n y ≡ false) (found_handle handle f (found_passes (listed.has_handle handle) mask.filters f found)) (fails_by_place hook table mask f y pair)

place_own : (hook : Hook) (table : PlainTable) (mask : PlainMask) (handle : ℕ) (g : Filter) → by_place hook table handle (row_of hook table mask g) ≡ listed.has_handle handle g
place_own hook table mask handle g = ap (λ b. b && g.handle == handle) (inside hook table (row_of hook table mask g) refl refl refl)

pub filter_rows_taken : (both : BothHooks) (hook : Hook) (place at handle : ℕ) (table : PlainTable) (mask : PlainMask) (f : Filter) →
    BothWhole both → EachPair GoTogether (all_rows both) → item_at (tables_on hook both) place ≡ Some table → item_at table.masks at ≡ Some mask →
    find (listed.has_handle handle) mask.filters ≡ Some f →
    all_rows (on_hook hook (removed place at handle) both) ≡ filter (λ row. not (in_table hook table.chain table.pref row && has_handle handle row)) (all_rows both)
filter_rows_taken both hook place at handle table mask f whole together there inside found =
    removed_rows hook both place at handle
    ∙ filter_left (by_place hook table handle) both hook place at handle table mask f together there inside found (place_fails hook table mask handle f found) (place_own hook table mask handle)

pub filter_rows_gone : (both : BothHooks) (hook : Hook) (place at handle : ℕ) (table : PlainTable) (mask : PlainMask) (f : Filter) →
    BothWhole both → EachPair GoTogether (all_rows both) → item_at (tables_on hook both) place ≡ Some table → item_at table.masks at ≡ Some mask →
    find (listed.has_handle handle) mask.filters ≡ Some f →
    filter (λ row. in_table hook table.chain table.pref row && has_handle handle row) (all_rows both) ≡ row_of hook table mask f ∷ []
filter_rows_gone both hook place at handle table mask f whole together there inside found =
    let cut : CutAt (tables_on hook both) place table = cut_at (tables_on hook both) place table there in
    let inner : CutAt table.masks at mask = cut_at table.masks at mask inside in
    let q : Row → Bool = by_place hook table handle in
    let ahead : List Row = ahead_of_mask hook both cut.front table inner.front in
    let behind : List Row = after_mask hook both cut.back table inner.back in
    let around = around_fail q both hook place at handle table mask f cut inner together found (place_fails hook table mask handle f found) in
    let pairs : EachPair GoTogether (ahead ++ (rows_of_mask hook table mask ++ behind)) = subst (EachPair GoTogether) (around_mask hook both place at table mask cut inner) together in
    ap (filter q) (around_mask hook both place at table mask cut inner)
    ∙ pass_between q ahead (rows_of_mask hook table mask) behind around.0 around.1
    ∙ filter_map (row_of hook table mask) q (listed.has_handle handle) (place_own hook table mask handle) mask.filters
    ∙ ap (map (row_of hook table mask))
    (one_with_handle hook table mask handle f mask.filters
    (pairs_front GoTogether (rows_of_mask hook table mask) behind (pairs_back GoTogether ahead (rows_of_mask hook table mask ++ behind) pairs)) found)

-- ---- the test by the table's serial
serial_own : (hook : Hook) (table : PlainTable) (mask : PlainMask) (handle : ℕ) (f : Filter) → find (listed.has_handle handle) mask.filters ≡ Some f →
    (other : PlainMask) (g : Filter) → by_serial (row_of hook table mask f) (row_of hook table other g) ≡ listed.has_handle handle g
serial_own hook table mask handle f found other g =
    ap (λ b. b && g.handle == f.handle) (itself table.serial) ∙ ap (λ n. g.handle == n) (found_handle handle f (found_passes (listed.has_handle handle) mask.filters f found))

pub row_left : (both : BothHooks) (hook : Hook) (place at handle : ℕ) (table : PlainTable) (mask : PlainMask) (f : Filter) →
    EachPair GoTogether (all_rows both) → item_at (tables_on hook both) place ≡ Some table → item_at table.masks at ≡ Some mask → find (listed.has_handle handle) mask.filters ≡ Some f →
    all_rows (on_hook hook (change_at place (in_masks (change_at at (less_filter handle)))) both) ≡ without_row (row_of hook table mask f) (all_rows both)
row_left both hook place at handle table mask f together there inside found =
    filter_left (by_serial (row_of hook table mask f)) both hook place at handle table mask f together there inside found
    (fails_by_serial (row_of hook table mask f)) (serial_own hook table mask handle f found mask)

-- ---- other actions
other_step : (hook : Hook) (table : PlainTable) (mask : PlainMask) (serials : List ℕ) (g : Filter) (b c : Bool) → b ≡ c →
    cond b (record (row_of hook table mask g) { actions = serials }) (row_of hook table mask g) ≡ row_of hook table mask (cond c (record g { actions = serials }) g)
other_step hook table mask serials g true c same = ap (λ b. row_of hook table mask (cond b (record g { actions = serials }) g)) same
other_step hook table mask serials g false c same = ap (λ b. row_of hook table mask (cond b (record g { actions = serials }) g)) same

pub actions_rows : (both : BothHooks) (hook : Hook) (place at handle : ℕ) (serials : List ℕ) (table : PlainTable) (mask : PlainMask) (f : Filter) →
    BothWhole both → EachPair GoTogether (all_rows both) → item_at (tables_on hook both) place ≡ Some table → item_at table.masks at ≡ Some mask →
    find (listed.has_handle handle) mask.filters ≡ Some f →
    all_rows (on_hook hook (change_at place (in_masks (change_at at (other_actions handle serials)))) both) ≡ with_new_actions (row_of hook table mask f) serials (all_rows both)
actions_rows both hook place at handle serials table mask f whole together there inside found =
    let cut : CutAt (tables_on hook both) place table = cut_at (tables_on hook both) place table there in
    let inner : CutAt table.masks at mask = cut_at table.masks at mask inside in
    let old : Row = row_of hook table mask f in
    let ahead : List Row = ahead_of_mask hook both cut.front table inner.front in
    let behind : List Row = after_mask hook both cut.back table inner.back in
    let around = around_fail (by_serial old) both hook place at handle table mask f cut inner together found (fails_by_serial old) in
    around_change hook both place at table mask cut inner (other_actions handle serials)
    ∙ sym (ap (with_new_actions old serials) (around_mask hook both place at table mask cut inner)
    ∙ changed_between (by_serial old) (λ row. record row { actions = serials }) ahead (rows_of_mask hook table mask) behind around.0 around.1
    ∙ ap (λ rows. ahead ++ (rows ++ behind))
    (map_map (row_of hook table mask) (λ row. cond (by_serial old row) (record row { actions = serials }) row) (λ g. cond (listed.has_handle handle g) (record g { actions = serials }) g)
    (λ g. other_step hook table mask serials g (by_serial old (row_of hook table mask g)) (listed.has_handle handle g) (serial_own hook table mask handle f found mask g)) mask.filters))
