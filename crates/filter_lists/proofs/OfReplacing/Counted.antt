-- Counts of rows and of serials where one row is exchanged for another.
use Rattle.std.proofs.Common.{◌≡◌, ℕ, ◌+◌, ◌≤◌, ◌&&◌, Bool, cond, not, List, [], ◌∷◌, ◌++◌, map, find, filter, length, Some, refl, sym, ◌∙◌, ap, subst, arith, suc, eq-eqb}
use Rattle.std.proofs.lemmas.Bool.{ne_eqb}
use Rattle.std.proofs.lemmas.List.{length-append}
use Rattle.tc_base.specs.declared.hook.Hook.{Hook}
use Rattle.filter_state.specs.States.{Row}
use Rattle.filter_state.specs.Sound.{Each, EachPair, GoTogether}
use Rattle.filter_state.specs.Tables.{in_table, has_handle}
use Rattle.filter_state.specs.Actions.{change_where}
use Rattle.filter_state.specs.Steps.{raised, without_row}
use Rattle.filter_index.specs.declared.filter.Filter.{Filter}
use Rattle.filter_index.specs.Listed as listed
use Rattle.filter_tables.specs.Plain.{PlainMask, PlainTable}
use Rattle.filter_tables.specs.Places.{item_at}
use Rattle.filter_tables.specs.Whole.{HasSome, IsFull}
use Rattle.filter_tables.specs.Rows.{BothHooks, tables_on, row_of, rows_of_mask, all_rows, BothWhole}
use Rattle.filter_state.proofs.Pairs.{each_front, each_back}
use Rattle.row_laws.proofs.OfChanges.Lists.{CutAt, cut_at, each_item}
use Rattle.row_laws.proofs.OfChanges.Filters.{split_count}
use Rattle.row_laws.proofs.OfChanges.Hooks.{ahead_of_mask, after_mask, around_mask}
use Rattle.row_laws.proofs.OfChanges.Whole.{HasFilters, whole_on}
use Rattle.row_laws.proofs.OfChanges.Swept.{removed_rows}
use Rattle.row_laws.proofs.OfChanges.FilterTaken.{filter_rows_taken, filter_rows_gone, row_left}

-- ---- serials that were given, and the next one
pub raised_given : (made serial : ℕ) → serial ≤ made → raised made serial ≡ made
raised_given made serial given = ap (λ b. cond b serial made) (ne_eqb serial (made + 1) (λ e. omega (arith, e, given)))

pub raised_next : (made serial : ℕ) → serial ≡ made + 1 → raised made serial ≡ serial
raised_next made serial next = ap (λ b. cond b serial made) (eq-eqb serial (made + 1) next)

-- ---- rows
pub changed_count : {X : Type 0} (test : X → Bool) (change : X → X) (xs : List X) → length (change_where test change xs) ≡ length xs
changed_count test change [] = refl
changed_count test change (x ∷ xs) = ap suc (changed_count test change xs)

-- a row taken out, and another put behind the others
pub exchanged_count : (both : BothHooks) (hook : Hook) (place at handle : ℕ) (table : PlainTable) (mask : PlainMask) (f : Filter) (row : Row) →
    BothWhole both → EachPair GoTogether (all_rows both) → item_at (tables_on hook both) place ≡ Some table → item_at table.masks at ≡ Some mask →
    find (listed.has_handle handle) mask.filters ≡ Some f → length (without_row (row_of hook table mask f) (all_rows both) ++ (row ∷ [])) ≡ length (all_rows both)
exchanged_count both hook place at handle table mask f row whole together there inside found =
    let gone : Row → Bool = λ row. in_table hook table.chain table.pref row && has_handle handle row in
    let left : without_row (row_of hook table mask f) (all_rows both) ≡ filter (λ row. not (gone row)) (all_rows both) =
    sym (row_left both hook place at handle table mask f together there inside found)
    ∙ sym (removed_rows hook both place at handle) ∙ filter_rows_taken both hook place at handle table mask f whole together there inside found in
    omega (
      arith,
      length-append (without_row (row_of hook table mask f) (all_rows both)) (row ∷ []),
      ap length left,
      ap length (filter_rows_gone both hook place at handle table mask f whole together there inside found),
      split_count gone (all_rows both),
    )

-- ---- what holds of each row holds of one of each mask
some_first : (P : Row → Type 0) (row : Filter → Row) (fs : List Filter) → HasSome fs → Each P (map row fs) → (f : Filter) × P (row f)
some_first P row [] some all = elim some [ ]
some_first P row (f ∷ fs) some all = (f, all.0)

pub row_there : (P : Row → Type 0) (both : BothHooks) (hook : Hook) (place at : ℕ) (table : PlainTable) (mask : PlainMask) →
    BothWhole both → item_at (tables_on hook both) place ≡ Some table → item_at table.masks at ≡ Some mask → Each P (all_rows both) → (f : Filter) × P (row_of hook table mask f)
row_there P both hook place at table mask whole there inside all =
    let cut : CutAt (tables_on hook both) place table = cut_at (tables_on hook both) place table there in
    let inner : CutAt table.masks at mask = cut_at table.masks at mask inside in
    let own : List Row = rows_of_mask hook table mask in
    let behind : List Row = after_mask hook both cut.back table inner.back in
    let full : IsFull table = each_item IsFull (tables_on hook both) place table there (whole_on hook both whole).full in
    some_first P (row_of hook table mask) mask.filters (each_item HasFilters table.masks at mask inside full.each)
    (each_front P own behind (each_back P (ahead_of_mask hook both cut.front table inner.front) (own ++ behind) (subst (Each P) (around_mask hook both place at table mask cut inner) all)))
