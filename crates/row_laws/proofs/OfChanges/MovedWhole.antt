-- Tables stay whole where a filter leaves its place for another mask.
use Rattle.std.proofs.Common.{◌≡◌, ℕ, zero, suc, ◌<◌, Bool, true, false, cond, List, [], ◌∷◌, ◌++◌, Some, refl, sym}
use Rattle.std.proofs.lemmas.Bool.{false≢true}
use Rattle.std.proofs.lemmas.Option.{none-some}
use Rattle.tc_base.specs.declared.hook.Hook.{Hook}
use Rattle.filter_state.specs.States.{Row}
use Rattle.filter_state.specs.Sound.{Each}
use Rattle.filter_index.specs.declared.filter.Filter.{Filter}
use Rattle.filter_tables.specs.Plain.{PlainMask, PlainTable}
use Rattle.filter_tables.specs.Places.{item_at, change_at}
use Rattle.filter_tables.specs.Changes.{is_none_left, less_filter, more_filter, new_mask, swept, moved, moved_out, in_masks}
use Rattle.filter_tables.specs.Whole.{HasSome, IsFull}
use Rattle.filter_tables.specs.Rows.{BothHooks, tables_on, on_hook, all_rows, BothWhole}
use Rattle.filter_state.proofs.Pairs.{each_append}
use Rattle.row_laws.proofs.OfChanges.Lists.{each_item, each_changed, each_changed_at}
use Rattle.row_laws.proofs.OfChanges.Whole.{HasFilters, some_changed, some_more, whole_changed, lower_changed, early_changed}
use Rattle.row_laws.proofs.OfChanges.Sweeping.{EachBut, but_changed, swept_full, swept_lower}
use Rattle.row_laws.proofs.OfChanges.MaskPut.{IsMaskBelow, IsFullBelow, below_whole, lower_more}

-- ---- some mask is left
item_some : {X : Type 0} (xs : List X) (place : ℕ) (x : X) → item_at xs place ≡ Some x → HasSome xs
item_some [] place x is = none-some x is
item_some (y ∷ xs) place x is = tt

not_none : {X : Type 0} (xs : List X) (x : X) → is_none_left (xs ++ (x ∷ [])) ≡ false
not_none [] x = refl
not_none (y ∷ xs) x = refl

unswept : (b : Bool) (m : PlainMask) (masks : List PlainMask) → b ≡ false → HasSome (cond b masks (m ∷ masks))
unswept true m masks is = absurd (false≢true (sym is))
unswept false m masks is = tt

swept_some : (b : Bool) (m : PlainMask) (masks : List PlainMask) → HasSome masks → HasSome (cond b masks (m ∷ masks))
swept_some true m masks some = some
swept_some false m masks some = tt

moved_some : (from to : ℕ) (f : Filter) (masks : List PlainMask) (other : PlainMask) → item_at masks to ≡ Some other → HasSome (moved from to f masks)
moved_some from to f [] other is = none-some other is
moved_some zero zero f (m ∷ masks) other is =
    unswept (is_none_left (more_filter f (less_filter f.handle m)).filters) (more_filter f (less_filter f.handle m)) masks (not_none (less_filter f.handle m).filters f)
moved_some zero (suc to) f (m ∷ masks) other is =
    swept_some (is_none_left (less_filter f.handle m).filters) (less_filter f.handle m) (change_at to (more_filter f) masks)
    (some_changed to (more_filter f) masks (item_some masks to other is))
moved_some (suc from) zero f (m ∷ masks) other is = tt
moved_some (suc from) (suc to) f (m ∷ masks) other is = tt

more_some : {X : Type 0} (xs : List X) (x : X) → HasSome (xs ++ (x ∷ []))
more_some [] x = tt
more_some (y ∷ xs) x = tt

swept_more_some : (from : ℕ) (masks : List PlainMask) (m : PlainMask) → is_none_left m.filters ≡ false → HasSome (swept from (masks ++ (m ∷ [])))
swept_more_some zero [] m some = unswept (is_none_left m.filters) m [] some
swept_more_some (suc from) [] m some = tt
swept_more_some zero (n ∷ masks) m some = swept_some (is_none_left n.filters) n (masks ++ (m ∷ [])) (more_some masks m)
swept_more_some (suc from) (n ∷ masks) m some = tt

-- ---- each mask has a filter, but the one that may be swept
but_turned : {X : Type 0} (P : X → Type 0) (change : X → X) → ((x : X) → P x → P (change x)) → (place at : ℕ) (xs : List X) → EachBut P place xs → EachBut P place (change_at at change xs)
but_turned P change turn place at [] all = tt
but_turned P change turn zero zero (x ∷ xs) all = all
but_turned P change turn zero (suc at) (x ∷ xs) all = each_changed P P change (λ y one. one) turn at xs all
but_turned P change turn (suc place) zero (x ∷ xs) all = (turn x all.0, all.1)
but_turned P change turn (suc place) (suc at) (x ∷ xs) all = (all.0, but_turned P change turn place at xs all.1)

but_more : {X : Type 0} (P : X → Type 0) (place : ℕ) (xs : List X) (x : X) → EachBut P place xs → P x → EachBut P place (xs ++ (x ∷ []))
but_more P zero [] x all one = tt
but_more P (suc place) [] x all one = (one, tt)
but_more P zero (y ∷ xs) x all one = each_append P xs (x ∷ []) all (one, tt)
but_more P (suc place) (y ∷ xs) x all one = (all.0, but_more P place xs x all.1 one)

-- ---- to the end of a mask
moved_full : (from to : ℕ) (f : Filter) (t : PlainTable) (other : PlainMask) → item_at t.masks to ≡ Some other → IsFull t → IsFull (in_masks (moved from to f) t)
moved_full from to f t other is full =
    let left : List PlainMask = change_at from (less_filter f.handle) t.masks in
    let masks : List PlainMask = change_at to (more_filter f) left in
    record {
      some = moved_some from to f t.masks other is;
      each = swept_full from masks
          (but_turned HasFilters (more_filter f) (λ m some. some_more m.filters (f ∷ []) some) from to left (but_changed HasFilters (less_filter f.handle) from t.masks full.each));
      rising = swept_lower from masks (lower_changed to (more_filter f) (λ m. refl) left (lower_changed from (less_filter f.handle) (λ m. refl) t.masks full.rising));
    }

pub moved_whole : (both : BothHooks) (hook : Hook) (place from to : ℕ) (table : PlainTable) (other : PlainMask) (new : Filter) → BothWhole both →
    item_at (tables_on hook both) place ≡ Some table → item_at table.masks to ≡ Some other → BothWhole (on_hook hook (change_at place (in_masks (moved from to new))) both)
moved_whole both hook place from to table other new whole there goal =
    let tables : List PlainTable = tables_on hook both in
    whole_changed hook both (change_at place (in_masks (moved from to new)))
    (λ all. record {
      full = each_changed_at IsFull (in_masks (moved from to new)) place tables table there
          (moved_full from to new table other goal (each_item IsFull tables place table there all.full)) all.full;
      rising = early_changed place (moved from to new) tables all.rising;
    }) whole

-- ---- to a new mask
moved_out_full : (from serial : ℕ) (words : List ℕ) (f : Filter) (t : PlainTable) → IsFullBelow serial t → IsFull (in_masks (moved_out from serial words f) t)
moved_out_full from serial words f t full =
    let less : PlainMask → PlainMask = less_filter f.handle in
    let left : List PlainMask = change_at from less t.masks in
    let new : PlainMask = new_mask serial words f in
    record {
      some = swept_more_some from left new refl;
      each = swept_full from (left ++ (new ∷ [])) (but_more HasFilters from left new (but_changed HasFilters less from t.masks full.0.each) tt);
      rising = swept_lower from (left ++ (new ∷ []))
          (lower_more left new (lower_changed from less (λ m. refl) t.masks full.0.rising)
          (each_changed (IsMaskBelow serial) (IsMaskBelow serial) less (λ m below. below) (λ m below. below) from t.masks full.1));
    }

pub moved_out_whole : (both : BothHooks) (hook : Hook) (place from serial : ℕ) (words : List ℕ) (new : Filter) → BothWhole both → Each (λ (row : Row). row.mask_serial < serial) (all_rows both) →
    BothWhole (on_hook hook (change_at place (in_masks (moved_out from serial words new))) both)
moved_out_whole both hook place from serial words new =
    below_whole both hook place serial (moved_out from serial words new) (moved_out_full from serial words new)
