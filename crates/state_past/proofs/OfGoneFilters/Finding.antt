-- What the lists find is what the state has.
use Rattle.std.proofs.Common.{◌≡◌, ◌∙◌, ℕ, Bool, true, false, cond, ◌||◌, List, [], ◌∷◌, map, filter, Option, Some, None, is_some, option_map, refl, sym, ap}
use Rattle.std.specs.Prelude.{find}
use Rattle.std.specs.List.{list_any}
use Rattle.tc_base.specs.declared.hook.Hook.{Hook}
use Rattle.act_kinds.specs.declared.params.Kind.{Kind}
use Rattle.act_kinds.specs.declared.params.Params.{Params}
use Rattle.act_kinds.specs.Params.{number_of_kind, kind_number}
use Rattle.act_registry.specs.declared.entry.Entry.{Entry}
use Rattle.act_registry.specs.Entries as entries
use Rattle.act_registry.specs.Kept as registries
use Rattle.action_plan.specs.Entries.{action_of}
use Rattle.action_plan.proofs.Mapped.{first_mapped}
use Rattle.action_plan.proofs.Entries.{same_name}
use Rattle.filter_index.specs.declared.filter.Filter.{Filter}
use Rattle.filter_index.specs.Listed as listed
use Rattle.filter_state.specs.States.{Row, Action, State}
use Rattle.filter_state.specs.Actions.{is_named}
use Rattle.filter_state.specs.Tables.{first_where, in_table, mask_or_next, mask_row, filter_row}
use Rattle.filter_tables.specs.Plain.{PlainMask, PlainTable}
use Rattle.filter_tables.specs.Places.{item_at, place_where}
use Rattle.filter_tables.specs.Changes.{has_words, any_handle, is_table}
use Rattle.filter_tables.specs.Rows.{BothHooks, tables_on, row_of, all_rows}
use Rattle.hook_lists.specs.declared.kept.Kept.{Kept}
use Rattle.hook_lists.specs.States.{both_of, AreKept}
use Rattle.hook_lists.proofs.Sought.{place_nowhere}
use Rattle.filter_lists.specs.Spells.{Spells}
use Rattle.state_laws.proofs.OfOrder.First.{mask_same, some_mask_same}
use Rattle.row_laws.proofs.OfLookups.Found.{rows_found, rows_missing}
use Rattle.row_laws.proofs.OfLookups.Masks.{mask_found, mask_some, mask_missing}
use Rattle.row_laws.proofs.OfLookups.Handles.{row_found, filter_missing, no_filter}
use Rattle.state_past_laws.specs.OfChanges.Among as among
use Rattle.state_past_laws.specs.OfChanges.Serials.{serial_named}
use Rattle.state_past.specs.OfGoneFilters.Marks.{mark_of, marks_of, IsMaskRow}

none_of : {A : Type 0} (o : Option A) → is_some o ≡ false → o ≡ None
none_of (Some x) e = absurd (cc e)
none_of None e = refl

-- what isn't found isn't there
pub found_none : {A : Type 0} (test : A → Bool) (xs : List A) → find test xs ≡ None → list_any test xs ≡ false
found_none test [] e = refl
found_none test (x ∷ xs) e = pick (test x) refl (found_none test xs)
  where
    pick : (t : Bool) → test x ≡ t → (find test xs ≡ None → list_any test xs ≡ false) → (test x || list_any test xs) ≡ false
    pick true is rest = absurd (cc (e, is))
    pick false is rest = ap (λ (b : Bool). b || list_any test xs) is ∙ rest (sym (ap (λ (b : Bool). cond b (Some x) (find test xs)) is) ∙ e)

mask_row_is : (serial : ℕ) (o : Option Row) → is_some o ≡ true → mask_or_next o 0 ≡ serial → IsMaskRow serial o
mask_row_is serial (Some row) e is = is
mask_row_is serial None e is = absurd (cc e)

module _ (kept : Kept) (are : AreKept kept) (hook : Hook) where
  abbrev both : BothHooks
  both = both_of kept

  -- ---- no such table
  pub no_marks : (chain pref : ℕ) → place_where (is_table chain pref) (tables_on hook both) ≡ None → [] ≡ map mark_of (filter (in_table hook chain pref) (all_rows both))
  no_marks chain pref none = ap (map mark_of) (sym (rows_missing both hook chain pref (place_nowhere (is_table chain pref) (tables_on hook both) none)))

  pub no_filter_there : (chain pref handle : ℕ) → place_where (is_table chain pref) (tables_on hook both) ≡ None → [] ≡ map mark_of (among.listed (filter_row hook chain pref handle (all_rows both)))
  no_filter_there chain pref handle none = ap (λ (o : Option Row). map mark_of (among.listed o)) (sym (no_filter both hook chain pref handle (place_nowhere (is_table chain pref) (tables_on hook both) none)))

  pub no_mask_there : (chain pref : ℕ) (words : List ℕ) (s : State) → Spells kept s → place_where (is_table chain pref) (tables_on hook both) ≡ None → mask_row hook chain pref words s.rows ≡ None
  no_mask_there chain pref words s spells none = none_of (mask_row hook chain pref words s.rows) (sym (some_mask_same hook chain pref words spells.rows are.sound.together)
      ∙ ap is_some (mask_missing both hook chain pref words (place_nowhere (is_table chain pref) (tables_on hook both) none)))

  module _ (chain pref place : ℕ) (t : PlainTable) (here : item_at (tables_on hook both) place ≡ Some t) (names : (t.chain ≡ chain) × (t.pref ≡ pref)) where
    pub table_marks : marks_of hook t ≡ map mark_of (filter (in_table hook chain pref) (all_rows both))
    table_marks = ap (map mark_of) (sym (rows_found both hook place t are.whole here)
        ∙ (ap (λ (n : ℕ). filter (in_table hook n t.pref) (all_rows both)) names.0 ∙ ap (λ (n : ℕ). filter (in_table hook chain n) (all_rows both)) names.1))

    rows_as : (handle : ℕ) → filter_row hook t.chain t.pref handle (all_rows both) ≡ filter_row hook chain pref handle (all_rows both)
    rows_as handle = ap (λ (c : ℕ). filter_row hook c t.pref handle (all_rows both)) names.0 ∙ ap (λ (p : ℕ). filter_row hook chain p handle (all_rows both)) names.1

    pub filter_lacks : (handle : ℕ) → any_handle handle t.masks ≡ false → [] ≡ map mark_of (among.listed (filter_row hook chain pref handle (all_rows both)))
    filter_lacks handle none = ap (λ (o : Option Row). map mark_of (among.listed o)) (sym (sym (rows_as handle) ∙ filter_missing both hook place handle t are.whole here none))

    pub filter_there : (at : ℕ) (m : PlainMask) → item_at t.masks at ≡ Some m → (handle : ℕ) (f : Filter) → find (listed.has_handle handle) m.filters ≡ Some f
        → mark_of (row_of hook t m f) ∷ [] ≡ map mark_of (among.listed (filter_row hook chain pref handle (all_rows both)))
    filter_there at m within handle f found = ap (λ (o : Option Row). map mark_of (among.listed o)) (sym (sym (rows_as handle) ∙ row_found both hook place at handle t m f are.whole are.sound.together here within found))

    -- ---- the mask with some words
    is_there : (words : List ℕ) (s : State) → Spells kept s → is_some (mask_row hook chain pref words s.rows) ≡ is_some (place_where (has_words words) t.masks)
    is_there words s spells = sym (some_mask_same hook chain pref words spells.rows are.sound.together)
        ∙ (ap (λ (c : ℕ). is_some (mask_row hook c pref words (all_rows both))) (sym names.0)
        ∙ (ap (λ (p : ℕ). is_some (mask_row hook t.chain p words (all_rows both))) (sym names.1) ∙ mask_some both hook place words t are.whole here))

    pub lacks_mask : (words : List ℕ) (s : State) → Spells kept s → place_where (has_words words) t.masks ≡ None → mask_row hook chain pref words s.rows ≡ None
    lacks_mask words s spells none = none_of (mask_row hook chain pref words s.rows) (is_there words s spells ∙ ap is_some none)

    pub has_mask : (words : List ℕ) (s : State) → Spells kept s → (at : ℕ) (m : PlainMask) → item_at t.masks at ≡ Some m → place_where (has_words words) t.masks ≡ Some at
        → IsMaskRow m.serial (mask_row hook chain pref words s.rows)
    has_mask words s spells at m within placed = mask_row_is m.serial (mask_row hook chain pref words s.rows) (is_there words s spells ∙ ap is_some placed)
        (sym (mask_same hook chain pref words 0 spells.rows are.sound.together)
        ∙ (ap (λ (c : ℕ). mask_or_next (mask_row hook c pref words (all_rows both)) 0) (sym names.0)
        ∙ (ap (λ (p : ℕ). mask_or_next (mask_row hook t.chain p words (all_rows both)) 0) (sym names.1)
        ∙ mask_found both hook place at 0 words t m are.whole are.sound.together here placed within)))

-- ---- the action of a name
mapped_serial : (o : Option (Entry Params)) → option_map (λ (action : Action). action.serial) (option_map action_of o) ≡ option_map (λ (e : Entry Params). e.serial) o
mapped_serial (Some e) = refl
mapped_serial None = refl

pub named_entry : (kept : Kept) (s : State) (kind : Kind) (index number : ℕ) (registry : registries.Kept Params) → number ≡ number_of_kind kind → registry ≡ kept.actions → Spells kept s
    → option_map (λ (e : Entry Params). e.serial) (find (entries.is_named kind_number number index) registry.entries) ≡ serial_named s kind index
named_entry kept s kind index number registry is same spells =
    ap (λ (n : ℕ). option_map (λ (e : Entry Params). e.serial) (find (entries.is_named kind_number n index) registry.entries)) is
    ∙ (ap (λ (r : registries.Kept Params). option_map (λ (e : Entry Params). e.serial) (find (entries.is_named kind_number (number_of_kind kind) index) r.entries)) same
    ∙ (sym (mapped_serial (find (entries.is_named kind_number (number_of_kind kind) index) kept.actions.entries))
    ∙ (ap (option_map (λ (action : Action). action.serial)) (first_mapped action_of (entries.is_named kind_number (number_of_kind kind) index) (is_named kind index) (same_name kind index) kept.actions.entries)
    ∙ ap (λ (xs : List Action). option_map (λ (action : Action). action.serial) (first_where (is_named kind index) xs)) spells.actions)))
