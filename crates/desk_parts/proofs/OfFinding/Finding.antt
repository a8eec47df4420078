-- What the lists find is what the state has.
use Rattle.std.proofs.Common.{◌≡◌, ◌∙◌, ℕ, ◌≤◌, ◌||◌, Bool, true, false, cond, List, [], ◌∷◌, length, map, filter, Option, Some, None, is_some, refl, sym, ap, subst}
use Rattle.std.specs.Prelude.{find}
use Rattle.std.specs.List.{list_any}
use Rattle.std.proofs.lemmas.List.{length-map}
use Rattle.tc_base.specs.declared.hook.Hook.{Hook}
use Rattle.filter_index.specs.declared.filter.Filter.{Filter}
use Rattle.filter_index.specs.Listed as listed
use Rattle.filter_state.specs.States.{Row, State}
use Rattle.filter_state.specs.Order.{SameRows, of_mask}
use Rattle.filter_state.specs.Sound.{EachPair, GoTogether}
use Rattle.filter_state.specs.Tables.{mask_or_next, mask_row, filter_row}
use Rattle.filter_tables.specs.Plain.{PlainMask, PlainTable}
use Rattle.filter_tables.specs.Places.{item_at, place_where}
use Rattle.filter_tables.specs.Changes.{has_words, any_handle, is_table}
use Rattle.filter_tables.specs.Rows.{BothHooks, tables_on, row_of, all_rows}
use Rattle.hook_lists.specs.declared.kept.Kept.{Kept}
use Rattle.hook_lists.specs.States.{both_of, AreKept}
use Rattle.hook_lists.proofs.Sought.{place_nowhere}
use Rattle.filter_lists.specs.Spells.{Spells}
use Rattle.state_laws.proofs.OfOrder.Same.{order_same}
use Rattle.state_laws.proofs.OfOrder.First.{mask_same, some_mask_same, row_same}
use Rattle.row_laws.proofs.OfLookups.Masks.{mask_found, mask_some, mask_missing}
use Rattle.row_laws.proofs.OfLookups.Handles.{row_found, filter_missing, no_filter}
use Rattle.head_laws.proofs.MaskRows.{mask_rows}
use Rattle.hook_store_law.specs.OfEffects.Parts.{filter_of}
use Rattle.hook_store_law.specs.Stated.{filter_stated, filters_at}

some_of : {A : Type 0} (o : Option A) → is_some o ≡ true → (x : A) × (o ≡ Some x)
some_of (Some x) e = (x, refl)
some_of None e = absurd (cc e)

none_of : {A : Type 0} (o : Option A) → is_some o ≡ false → o ≡ None
none_of (Some x) e = absurd (cc e)
none_of None e = refl

-- what isn't found isn't there
pub found_none : {A : Type 0} (test : A → Bool) (xs : List A) → find test xs ≡ None → list_any test xs ≡ false
found_none test [] e = refl
found_none test (x ∷ xs) e = pick (test x) refl (found_none test xs)
  where
    pick : (t : Bool) → test x ≡ t → (find test xs ≡ None → list_any test xs ≡ false) → (test x || list_any test xs) ≡ false
    pick true is rest = absurd (cc (e, is))
    pick false is rest = ap (λ (b : Bool). b || list_any test xs) is ∙ rest (sym (ap (λ (b : Bool). cond b (Some x) (find test xs)) is) ∙ e)

module _ (kept : Kept) (are : AreKept kept) (s : State) (spells : Spells kept s) (hook : Hook) where
  abbrev both : BothHooks
  both = both_of kept

  same : SameRows (all_rows both) s.rows
  same = spells.rows

  together : EachPair GoTogether (all_rows both)
  together = are.sound.together

  some_same : (chain pref : ℕ) (words : List ℕ) → is_some (mask_row hook chain pref words (all_rows both)) ≡ is_some (mask_row hook chain pref words s.rows)
  some_same chain pref words = some_mask_same hook chain pref words same together

  -- ---- no such table
  pub no_mask : (chain pref : ℕ) (words : List ℕ) → place_where (is_table chain pref) (tables_on hook both) ≡ None → mask_row hook chain pref words s.rows ≡ None
  no_mask chain pref words none = none_of (mask_row hook chain pref words s.rows) (sym (some_same chain pref words)
      ∙ ap is_some (mask_missing both hook chain pref words (place_nowhere (is_table chain pref) (tables_on hook both) none)))

  pub no_row : (chain pref handle : ℕ) → place_where (is_table chain pref) (tables_on hook both) ≡ None → filter_row hook chain pref handle s.rows ≡ None
  no_row chain pref handle none = sym (row_same hook chain pref handle same together)
      ∙ no_filter both hook chain pref handle (place_nowhere (is_table chain pref) (tables_on hook both) none)

  module _ (chain pref place : ℕ) (t : PlainTable) (here : item_at (tables_on hook both) place ≡ Some t) (names : (t.chain ≡ chain) × (t.pref ≡ pref)) where
    -- ---- the table has no such mask, or no such filter
    is_there : (words : List ℕ) → is_some (mask_row hook chain pref words s.rows) ≡ is_some (place_where (has_words words) t.masks)
    is_there words = sym (some_same chain pref words)
        ∙ (ap (λ (c : ℕ). is_some (mask_row hook c pref words (all_rows both))) (sym names.0)
        ∙ (ap (λ (p : ℕ). is_some (mask_row hook t.chain p words (all_rows both))) (sym names.1) ∙ mask_some both hook place words t are.whole here))

    pub lacks_mask : (words : List ℕ) → place_where (has_words words) t.masks ≡ None → mask_row hook chain pref words s.rows ≡ None
    lacks_mask words none = none_of (mask_row hook chain pref words s.rows) (is_there words ∙ ap is_some none)

    rows_as : (handle : ℕ) → filter_row hook t.chain t.pref handle (all_rows both) ≡ filter_row hook chain pref handle s.rows
    rows_as handle = ap (λ (c : ℕ). filter_row hook c t.pref handle (all_rows both)) names.0
        ∙ (ap (λ (p : ℕ). filter_row hook chain p handle (all_rows both)) names.1 ∙ row_same hook chain pref handle same together)

    pub lacks_filter : (handle : ℕ) → any_handle handle t.masks ≡ false → filter_row hook chain pref handle s.rows ≡ None
    lacks_filter handle none = sym (rows_as handle) ∙ filter_missing both hook place handle t are.whole here none

    module _ (at : ℕ) (m : PlainMask) (within : item_at t.masks at ≡ Some m) where
      -- ---- and what it has
      pub counted : length m.filters ≡ length (filters_at s m.serial)
      counted = sym (length-map m.filters (row_of hook t m))
          ∙ (ap length (sym (mask_rows both hook place at t m are.whole together here within) ∙ order_same m.serial same)
          ∙ (sym (length-map (filter (of_mask m.serial) s.rows) filter_of) ∙ sym (length-map (map filter_of (filter (of_mask m.serial) s.rows)) filter_stated)))

      pub has_mask : (words : List ℕ) → place_where (has_words words) t.masks ≡ Some at → (row : Row) × (mask_row hook chain pref words s.rows ≡ Some row) × (row.mask_serial ≡ m.serial)
      has_mask words placed = let row = some_of (mask_row hook chain pref words s.rows) (is_there words ∙ ap is_some placed) in (
        row.0,
        row.1,
        sym (ap (λ (o : Option Row). mask_or_next o 0) row.1)
            ∙ (sym (mask_same hook chain pref words 0 same together)
            ∙ (ap (λ (c : ℕ). mask_or_next (mask_row hook c pref words (all_rows both)) 0) (sym names.0)
            ∙ (ap (λ (p : ℕ). mask_or_next (mask_row hook t.chain p words (all_rows both)) 0) (sym names.1)
            ∙ mask_found both hook place at 0 words t m are.whole together here placed within))),
      )

      pub has_filter : (handle : ℕ) (f : Filter) → find (listed.has_handle handle) m.filters ≡ Some f → filter_row hook chain pref handle s.rows ≡ Some (row_of hook t m f)
      has_filter handle f found = sym (rows_as handle) ∙ row_found both hook place at handle t m f are.whole together here within found
