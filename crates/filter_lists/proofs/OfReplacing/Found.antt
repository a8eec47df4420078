-- The filter that a line is to replace: it isn't there, or stands in its table and mask.
use Rattle.std.proofs.Common.{◌≡◌, ℕ, Some, None, refl, sym, ◌∙◌, ap, subst}
use Rattle.std.specs.Prelude.{unwrap_or}
use Rattle.filter_state.specs.declared.edit.FilterLine.{FilterLine}
use Rattle.filter_state.specs.Tables.{filter_row}
use Rattle.filter_index.specs.Listed as listed
use Rattle.filter_tables.specs.Plain.{PlainTable}
use Rattle.filter_tables.specs.Places.{item_at, place_where}
use Rattle.filter_tables.specs.Changes.{has_handle_in, is_table}
use Rattle.filter_tables.specs.Rows.{tables_on, row_of, all_rows}
use Rattle.filter_tables.proofs.Moves.{item_there}
use Rattle.row_laws.proofs.OfLookups.Handles.{row_found, filter_missing, no_filter}
use Rattle.hook_lists.specs.declared.kept.Kept.{Kept}
use Rattle.hook_lists.specs.States.{both_of, state_of, AreKept}
use Rattle.hook_lists.proofs.Sought.{place_within, place_nowhere, place_passes, its_names}
use Rattle.filter_lists.specs.OfReplacing.Replacements.{old_row, IsFound}
use Rattle.filter_lists.proofs.OfReplacing.Seeking.{find_there}

-- what is said of the table's own chain and pref
by_names : {V : Type 0} (says : ℕ → ℕ → V) (v : V) (t : PlainTable) (chain pref : ℕ) → t.chain ≡ chain → t.pref ≡ pref → says t.chain t.pref ≡ v → says chain pref ≡ v
by_names says v t chain pref its_chain its_pref said = subst (λ n. says chain n ≡ v) its_pref (subst (λ n. says n t.pref ≡ v) its_chain said)

module _ (kept : Kept) (line : FilterLine) (pref handle : ℕ) (its_pref : pref ≡ unwrap_or line.pref 0) (its_handle : handle ≡ unwrap_or line.handle 0) where
  row_asked : old_row (state_of kept) line ≡ filter_row line.hook line.chain pref handle (all_rows (both_of kept))
  row_asked =
      ap (λ n. filter_row line.hook line.chain n (unwrap_or line.handle 0) (all_rows (both_of kept))) (sym its_pref)
      ∙ ap (λ n. filter_row line.hook line.chain pref n (all_rows (both_of kept))) (sym its_handle)

  -- ---- not there
  pub no_table : place_where (is_table line.chain pref) (tables_on line.hook (both_of kept)) ≡ None → IsFound kept line None
  no_table nowhere =
      row_asked ∙ no_filter (both_of kept) line.hook line.chain pref handle (place_nowhere (is_table line.chain pref) (tables_on line.hook (both_of kept)) nowhere)

  pub no_old : (place : ℕ) (t : PlainTable) → AreKept kept → place_where (is_table line.chain pref) (tables_on line.hook (both_of kept)) ≡ Some place →
      item_at (tables_on line.hook (both_of kept)) place ≡ Some t → place_where (has_handle_in handle) t.masks ≡ None → IsFound kept line None
  no_old place t are found there none =
      let names = its_names (tables_on line.hook (both_of kept)) line.chain pref place t found there in
      row_asked
      ∙ by_names (λ n k. filter_row line.hook n k handle (all_rows (both_of kept))) None t line.chain pref names.0 names.1
      (filter_missing (both_of kept) line.hook place handle t are.whole there (place_nowhere (has_handle_in handle) t.masks none))

  -- ---- there
  pub old_found : (place at : ℕ) (t : PlainTable) → AreKept kept → place_where (is_table line.chain pref) (tables_on line.hook (both_of kept)) ≡ Some place →
      item_at (tables_on line.hook (both_of kept)) place ≡ Some t → place_where (has_handle_in handle) t.masks ≡ Some at →
      IsFound kept line (Some (record { hook = line.hook; chain = line.chain; pref = pref; handle = handle; table = place; mask = at }))
  old_found place at t are found there inside =
      let names = its_names (tables_on line.hook (both_of kept)) line.chain pref place t found there in
      let m = item_there t.masks at (place_within (has_handle_in handle) t.masks at inside) in
      let f = find_there (listed.has_handle handle) m.0.filters (place_passes (has_handle_in handle) t.masks at m.0 inside m.1) in
      let row =
      row_asked
      ∙ by_names (λ n k. filter_row line.hook n k handle (all_rows (both_of kept))) (Some (row_of line.hook t m.0 f.0)) t line.chain pref names.0 names.1
      (row_found (both_of kept) line.hook place at handle t m.0 f.0 are.whole are.sound.together there m.1 f.1) in
      (t, m.0, f.0, record { table_stands = there; chain = names.0; pref = names.1; mask_place = inside; mask_stands = m.1; filter_stands = f.1 }, refl, row)
