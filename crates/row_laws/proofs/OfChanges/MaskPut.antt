-- A mask more with its first filter is a row more, and keeps the tables whole.
use Rattle.std.proofs.Common.{◌≡◌, ℕ, ◌<◌, List, [], ◌∷◌, ◌++◌, map, Some, sym, ◌∙◌, ap, subst}
use Rattle.std.specs.List.{flat_map}
use Rattle.std.proofs.lemmas.List.Concat.{flat_map-append}
use Rattle.tc_base.specs.declared.hook.Hook.{Hook}
use Rattle.filter_state.specs.States.{Row}
use Rattle.filter_state.specs.Sound.{Each, EachPair}
use Rattle.filter_state.specs.Order.{SameRows}
use Rattle.filter_index.specs.declared.filter.Filter.{Filter}
use Rattle.filter_tables.specs.Plain.{PlainMask, PlainTable}
use Rattle.filter_tables.specs.Places.{item_at, change_at}
use Rattle.filter_tables.specs.Changes.{new_mask, in_masks}
use Rattle.filter_tables.specs.Whole.{HasSome, IsFull}
use Rattle.filter_tables.specs.Rows.{BothHooks, tables_on, on_hook, row_of, rows_of_mask, rows_of_table, rows_of, all_rows, BothWhole}
use Rattle.filter_state.proofs.Pairs.{each_weaker, each_front, each_back, each_append}
use Rattle.row_laws.proofs.OfChanges.Lists.{CutAt, cut_at, each_changed}
use Rattle.row_laws.proofs.OfChanges.Hooks.{rows_ahead, rows_after, hook_rows, ahead_of_table, after_table, around_table, around_changed}
use Rattle.row_laws.proofs.OfChanges.Others.{IsOfOther, less_apart}
use Rattle.row_laws.proofs.OfChanges.Put.{put_past}
use Rattle.row_laws.proofs.OfChanges.Whole.{IsLower, HasFilters, some_more, whole_changed, early_changed}

-- ---- serials below that of the mask
abbrev pub IsBelow : ℕ → Row → Type 0
IsBelow serial row = row.mask_serial < serial

abbrev pub IsMaskBelow : ℕ → PlainMask → Type 0
IsMaskBelow serial m = m.serial < serial

pub below_other : (serial : ℕ) (row : Row) → IsBelow serial row → IsOfOther serial row
below_other serial row below = λ same. less_apart row.mask_serial serial below (sym same)

pub new_mask_rows : (both : BothHooks) (hook : Hook) (place serial : ℕ) (words : List ℕ) (table : PlainTable) (f : Filter) →
    Each (IsBelow serial) (all_rows both) → item_at (tables_on hook both) place ≡ Some table →
    SameRows (all_rows (on_hook hook (change_at place (in_masks (λ masks. masks ++ (new_mask serial words f ∷ [])))) both))
    (all_rows both ++ (row_of hook table (new_mask serial words f) f ∷ []))
new_mask_rows both hook place serial words table f below there =
    let cut : CutAt (tables_on hook both) place table = cut_at (tables_on hook both) place table there in
    let mask : PlainMask = new_mask serial words f in
    let row : Row = row_of hook table mask f in
    let ahead : List Row = ahead_of_table hook both cut.front in
    let behind : List Row = after_table hook both cut.back in
    let old : all_rows both ≡ ahead ++ (rows_of_table hook table ++ behind) = around_table hook both place table cut in
    let more : PlainTable → PlainTable = in_masks (λ masks. masks ++ (mask ∷ [])) in
    let new : all_rows (on_hook hook (change_at place more) both) ≡ ahead ++ ((rows_of_table hook table ++ (row ∷ [])) ++ behind) =
    around_changed hook both place table cut more
    ∙ ap (λ rows. ahead ++ (rows ++ behind)) (flat_map-append (rows_of_mask hook table) table.masks (mask ∷ [])) in
    let others : Each (IsOfOther serial) behind =
    each_weaker (IsBelow serial) (IsOfOther serial) (below_other serial) behind
    (each_back (IsBelow serial) (rows_of_table hook table) behind
    (each_back (IsBelow serial) ahead (rows_of_table hook table ++ behind) (subst (Each (IsBelow serial)) old below))) in
    let P : List Row → Type 0 = λ rows. SameRows rows (all_rows both ++ (row ∷ [])) in
    let Q : List Row → Type 0 = λ rows. SameRows (ahead ++ ((rows_of_table hook table ++ (row ∷ [])) ++ behind)) (rows ++ (row ∷ [])) in
    subst P (sym new) (subst Q (sym old) (put_past ahead (rows_of_table hook table) row behind others))

-- ---- where all rows are below a serial, the masks are
mask_below : (serial : ℕ) (hook : Hook) (t : PlainTable) (m : PlainMask) (filters : List Filter) → HasSome filters → Each (IsBelow serial) (map (row_of hook t m) filters) → IsMaskBelow serial m
mask_below serial hook t m [] some below = elim some [ ]
mask_below serial hook t m (f ∷ filters) some below = below.0

masks_below : (serial : ℕ) (hook : Hook) (t : PlainTable) (masks : List PlainMask) → Each HasFilters masks → Each (IsBelow serial) (flat_map (rows_of_mask hook t) masks) →
    Each (IsMaskBelow serial) masks
masks_below serial hook t [] some below = tt
masks_below serial hook t (m ∷ masks) some below = (
  mask_below serial hook t m m.filters some.0 (each_front (IsBelow serial) (rows_of_mask hook t m) (flat_map (rows_of_mask hook t) masks) below),
  masks_below serial hook t masks some.1 (each_back (IsBelow serial) (rows_of_mask hook t m) (flat_map (rows_of_mask hook t) masks) below),
)

-- a full table whose masks are below a serial
abbrev pub IsFullBelow : ℕ → PlainTable → Type 0
IsFullBelow serial t = IsFull t × Each (IsMaskBelow serial) t.masks

tables_below : (serial : ℕ) (hook : Hook) (tables : List PlainTable) → Each IsFull tables → Each (IsBelow serial) (rows_of hook tables) → Each (IsFullBelow serial) tables
unfolding rows_of
tables_below serial hook [] full below = tt
tables_below serial hook (t ∷ tables) full below = (
  (full.0, masks_below serial hook t t.masks full.0.each (each_front (IsBelow serial) (rows_of_table hook t) (rows_of hook tables) below)),
  tables_below serial hook tables full.1 (each_back (IsBelow serial) (rows_of_table hook t) (rows_of hook tables) below),
)

hook_below : (serial : ℕ) (hook : Hook) (both : BothHooks) → Each (IsBelow serial) (all_rows both) → Each (IsBelow serial) (rows_of hook (tables_on hook both))
hook_below serial hook both below =
    each_front (IsBelow serial) (rows_of hook (tables_on hook both)) (rows_after hook both)
    (each_back (IsBelow serial) (rows_ahead hook both) (rows_of hook (tables_on hook both) ++ rows_after hook both) (subst (Each (IsBelow serial)) (hook_rows hook both) below))

-- a change of the masks that keeps a table full if they are below a serial
pub below_whole : (both : BothHooks) (hook : Hook) (place serial : ℕ) (change : List PlainMask → List PlainMask) →
    ((t : PlainTable) → IsFullBelow serial t → IsFull (in_masks change t)) → BothWhole both → Each (IsBelow serial) (all_rows both) →
    BothWhole (on_hook hook (change_at place (in_masks change)) both)
below_whole both hook place serial change kept whole below =
    let tables : List PlainTable = tables_on hook both in
    whole_changed hook both (change_at place (in_masks change))
    (λ all. record {
      full = each_changed (IsFullBelow serial) IsFull (in_masks change) (λ t full. full.0) kept place tables
          (tables_below serial hook tables all.full (hook_below serial hook both below));
      rising = early_changed place change tables all.rising;
    }) whole

pub lower_more : (masks : List PlainMask) (m : PlainMask) → EachPair IsLower masks → Each (IsMaskBelow m.serial) masks → EachPair IsLower (masks ++ (m ∷ []))
lower_more [] m lower below = (tt, tt)
lower_more (n ∷ masks) m lower below = (each_append (IsLower n) masks (m ∷ []) lower.0 (below.0, tt), lower_more masks m lower.1 below.1)

pub new_mask_whole : (both : BothHooks) (hook : Hook) (place serial : ℕ) (words : List ℕ) (f : Filter) → BothWhole both → Each (λ (row : Row). row.mask_serial < serial) (all_rows both) →
    BothWhole (on_hook hook (change_at place (in_masks (λ masks. masks ++ (new_mask serial words f ∷ [])))) both)
new_mask_whole both hook place serial words f =
    below_whole both hook place serial (λ masks. masks ++ (new_mask serial words f ∷ []))
    (λ t full. record {
      some = some_more t.masks (new_mask serial words f ∷ []) full.0.some;
      each = each_append HasFilters t.masks (new_mask serial words f ∷ []) full.0.each (tt, tt);
      rising = lower_more t.masks (new_mask serial words f) full.0.rising full.1;
    })

pub mask_put_rows : (both : BothHooks) (hook : Hook) (place serial : ℕ) (words : List ℕ) (table : PlainTable) (f : Filter) →
    BothWhole both → Each (λ (row : Row). row.mask_serial < serial) (all_rows both) → item_at (tables_on hook both) place ≡ Some table →
    SameRows (all_rows (on_hook hook (change_at place (in_masks (λ masks. masks ++ (new_mask serial words f ∷ [])))) both))
    (all_rows both ++ (row_of hook table (new_mask serial words f) f ∷ []))
mask_put_rows both hook place serial words table f whole below there = new_mask_rows both hook place serial words table f below there
