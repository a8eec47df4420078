-- Going through masks, and through tables, for a mask of one serial.
use Rattle.std.proofs.Common.{◌≡◌, ◌∙◌, ℕ, zero, suc, ◌<◌, ◌||◌, Bool, false, List, [], ◌∷◌, length, get_or, take, Option, Some, None, refl, sym, ap, subst, arith}
use Rattle.std.specs.Prelude.{map, IsSomeAnd, IfSome, IfNone}
use Rattle.std.specs.List.{list_any, flat_map}
use Rattle.std.proofs.lemmas.Bool.{false≢true, or_parts}
use Rattle.std.proofs.lemmas.List.Folds.{list_any-append}
use Rattle.tc_base.specs.declared.hook.Hook.{Hook}
use Rattle.tc_base.specs.declared.hook.Hook.TheVariants as hooks
use Rattle.filter_index.specs.declared.filter.Filter.{Filter}
use Rattle.filter_state.specs.Order.{of_mask}
use Rattle.filter_tables.specs.declared.mask_list.MaskList.{MaskList}
use Rattle.filter_tables.specs.declared.filter_table.FilterTable.{FilterTable}
use Rattle.filter_tables.specs.Plain.{PlainMask, PlainTable}
use Rattle.filter_tables.specs.Places.{item_at}
use Rattle.filter_tables.specs.Seen.{plain_table}
use Rattle.filter_tables.specs.SeenMask.{plain_mask}
use Rattle.filter_tables.specs.Rows.{tables_on, row_of, rows_of_mask, rows_of_table, rows_of}
use Rattle.hook_lists.specs.declared.kept.Kept.{Kept}
use Rattle.hook_lists.specs.States.{both_of, AreKept}
use Rattle.classify_walk.specs.Answered.{StandsMask}
use Rattle.classify_walk.specs.Found.{is_mask, has_mask, IsIn, IsMaskOf}

-- ---- a list that is gone through
seen_at : {X Y : Type 0} (f : X → Y) (xs : List X) (place : ℕ) (d : X) → place < length xs → item_at (map f xs) place ≡ Some (f (get_or xs place d))
seen_at f [] place d within = absurd (omega arith)
seen_at f (x ∷ xs) zero d within = refl
seen_at f (x ∷ xs) (suc place) d within = seen_at f xs place d (omega arith)

pub item_lent : {X Y : Type 0} (f : X → Y) (xs : List X) (place : ℕ) (x : X) → place < length xs → x ≡ get_or xs place x → item_at (map f xs) place ≡ Some (f x)
item_lent f xs place x within at = seen_at f xs place x within ∙ ap (λ y. Some (f y)) (sym at)

-- none of the first so many passes
abbrev pub NoneBefore : {X Y : Type 0} → (Y → Bool) → (X → Y) → List X → ℕ → Type 0
NoneBefore test f xs place = list_any test (map f (take place xs)) ≡ false

-- ---- where no table has the mask, no row is of it
no_filter : (serial : ℕ) (hook : Hook) (t : PlainTable) (m : PlainMask) (filters : List Filter) → is_mask serial m ≡ false → list_any (of_mask serial) (map (row_of hook t m) filters) ≡ false
no_filter serial hook t m [] other = refl
no_filter serial hook t m (f ∷ filters) other = ap (λ b. b || list_any (of_mask serial) (map (row_of hook t m) filters)) other ∙ no_filter serial hook t m filters other

no_row : (serial : ℕ) (hook : Hook) (t : PlainTable) (masks : List PlainMask) → list_any (is_mask serial) masks ≡ false → list_any (of_mask serial) (flat_map (rows_of_mask hook t) masks) ≡ false
no_row serial hook t [] none = refl
no_row serial hook t (m ∷ masks) none =
    let parts = or_parts (is_mask serial m) (list_any (is_mask serial) masks) none in
    list_any-append (of_mask serial) (rows_of_mask hook t m) (flat_map (rows_of_mask hook t) masks)
    ∙ ap (λ b. b || list_any (of_mask serial) (flat_map (rows_of_mask hook t) masks)) (no_filter serial hook t m m.filters parts.0) ∙ no_row serial hook t masks parts.1

none_on : (serial : ℕ) (hook : Hook) (tables : List PlainTable) → list_any (has_mask serial) tables ≡ false → list_any (of_mask serial) (rows_of hook tables) ≡ false
unfolding rows_of
none_on serial hook [] none = refl
none_on serial hook (t ∷ tables) none =
    let parts = or_parts (has_mask serial t) (list_any (has_mask serial) tables) none in
    list_any-append (of_mask serial) (rows_of_table hook t) (flat_map (rows_of_table hook) tables)
    ∙ ap (λ b. b || list_any (of_mask serial) (flat_map (rows_of_table hook) tables)) (no_row serial hook t t.masks parts.0) ∙ none_on serial hook tables parts.1

pub stands_somewhere : (kept : Kept) (serial : ℕ) → StandsMask kept serial → list_any (has_mask serial) kept.ingress.tables ≡ false → list_any (has_mask serial) kept.egress.tables ≡ false → ⊥
stands_somewhere kept serial stands here there =
    false≢true (sym (list_any-append (of_mask serial) (rows_of hooks.Ingress kept.ingress.tables) (rows_of hooks.Egress kept.egress.tables)
    ∙ ap (λ b. b || list_any (of_mask serial) (rows_of hooks.Egress kept.egress.tables)) (none_on serial hooks.Ingress kept.ingress.tables here) ∙ none_on serial hooks.Egress kept.egress.tables there) ∙ stands)

pub some_if_not_none : {X : Type 0} (P : X → Type 0) (Q : Type 0) (found : Option X) → IfSome found P → IfNone found Q → (Q → ⊥) → IsSomeAnd found P
some_if_not_none P Q None is missing never = absurd (never missing)
some_if_not_none P Q (Some x) is missing never = is

-- ---- where a mask was found
pub found_there : (lists : Kept) (hook : Hook) (tables : List FilterTable) (place : ℕ) (table : FilterTable) (masks : List MaskList) (at : ℕ) (list : MaskList) → AreKept lists →
    map plain_table tables ≡ tables_on hook (both_of lists) → place < length tables → table ≡ get_or tables place table →
    map plain_mask masks ≡ (plain_table table).masks → at < length masks → list ≡ get_or masks at list → IsMaskOf lists list.serial (plain_mask list)
found_there lists hook tables place table masks at list kept seen within is seen_masks within_masks is_mask = record {
  kept = kept;
  hook = hook;
  stands = record {
    table = plain_table table;
    place = place;
    there = subst (λ ts. item_at ts place ≡ Some (plain_table table)) seen (item_lent plain_table tables place table within is);
    within = record { place = at; there = subst (λ ms. item_at ms at ≡ Some (plain_mask list)) seen_masks (item_lent plain_mask masks at list within_masks is_mask); named = refl };
  };
}

pub found_on : (lists : Kept) (hook : Hook) (tables : List FilterTable) (serial : ℕ) (mask : PlainMask) → AreKept lists → map plain_table tables ≡ tables_on hook (both_of lists) →
    IsIn (map plain_table tables) serial mask → IsMaskOf lists serial mask
found_on lists hook tables serial mask kept seen is = record { kept = kept; hook = hook; stands = subst (λ ts. IsIn ts serial mask) seen is }
