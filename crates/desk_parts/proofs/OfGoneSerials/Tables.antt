-- The serials that a table of the lists names are those of its rows.
use Rattle.std.proofs.Common.{◌≡◌, ◌∙◌, ℕ, false, List, [], ◌∷◌, ◌++◌, filter, Some, refl, sym, ap}
use Rattle.std.specs.List.{flat_map, list_any}
use Rattle.std.proofs.lemmas.Grind.{flat_map-append}
use Rattle.std.proofs.lemmas.List.Folds.{flat_map-map}
use Rattle.tc_base.specs.declared.hook.Hook.{Hook}
use Rattle.filter_state.specs.States.{Row}
use Rattle.filter_state.specs.Tables.{in_table}
use Rattle.filter_tables.specs.Plain.{PlainMask, PlainTable}
use Rattle.filter_tables.specs.Places.{item_at}
use Rattle.filter_tables.specs.Changes.{is_table}
use Rattle.filter_tables.specs.Rows.{BothHooks, BothWhole, tables_on, row_of, rows_of_mask, all_rows}
use Rattle.row_laws.proofs.OfLookups.Found.{rows_found, rows_missing}
use Rattle.desk_parts.specs.OfGoneSerials.Same.{serials_in}
use Rattle.desk_parts.proofs.OfGoneSerials.Members.{serials_of}

masks_name : (hook : Hook) (t : PlainTable) (ms : List PlainMask) → serials_of (flat_map (rows_of_mask hook t) ms) ≡ flat_map (λ (m : PlainMask). serials_in m.filters) ms
masks_name hook t [] = refl
masks_name hook t (m ∷ ms) = flat_map-append (λ (row : Row). row.actions) (rows_of_mask hook t m) (flat_map (rows_of_mask hook t) ms)
    ∙ (ap (λ (l : List ℕ). l ++ serials_of (flat_map (rows_of_mask hook t) ms)) (flat_map-map (λ (row : Row). row.actions) (row_of hook t m) m.filters)
    ∙ ap (λ (l : List ℕ). serials_in m.filters ++ l) (masks_name hook t ms))

module _ (both : BothHooks) (hook : Hook) where
  pub table_has : (chain pref place : ℕ) (t : PlainTable) → BothWhole both → item_at (tables_on hook both) place ≡ Some t → (t.chain ≡ chain) × (t.pref ≡ pref)
      → flat_map (λ (m : PlainMask). serials_in m.filters) t.masks ≡ serials_of (filter (in_table hook chain pref) (all_rows both))
  table_has chain pref place t whole at names = sym (masks_name hook t t.masks)
      ∙ (ap serials_of (sym (rows_found both hook place t whole at))
      ∙ (ap (λ (n : ℕ). serials_of (filter (in_table hook n t.pref) (all_rows both))) names.0 ∙ ap (λ (n : ℕ). serials_of (filter (in_table hook chain n) (all_rows both))) names.1))

  pub no_table_has : (chain pref : ℕ) → list_any (is_table chain pref) (tables_on hook both) ≡ false → [] ≡ serials_of (filter (in_table hook chain pref) (all_rows both))
  no_table_has chain pref none = ap serials_of (sym (rows_missing both hook chain pref none))
