-- The lowest handle that a table doesn't use.
use Rattle.std.proofs.Common.{◌≡◌, ℕ, zero, suc, ◌==◌, false, List, [], ◌∷◌, length, map, Some, refl, ◌∙◌, ap, arith}
use Rattle.std.specs.Prelude.{filter}
use Rattle.std.specs.List.{list_any}
use Rattle.tc_base.specs.declared.hook.Hook.{Hook}
use Rattle.filter_state.specs.States.{Row}
use Rattle.filter_state.specs.Actions.{first_free}
use Rattle.filter_state.specs.Tables.{in_table, has_handle, free_handle}
use Rattle.filter_tables.specs.Plain.{PlainTable}
use Rattle.filter_tables.specs.Places.{item_at}
use Rattle.filter_tables.specs.Changes.{any_handle, is_table, IsLowestFree}
use Rattle.filter_tables.specs.Rows.{BothHooks, BothWhole, tables_on, all_rows}
use Rattle.filter_state.proofs.Pairs.{any_map}
use Rattle.filter_state.proofs.Free.{length_filter_le}
use Rattle.row_laws.proofs.OfLookups.Free.{lowest_is}
use Rattle.row_laws.proofs.OfLookups.Found.{rows_found, rows_missing}
use Rattle.row_laws.proofs.OfLookups.Handles.{table_handle}

length_mapped : {X Y : Type 0} (f : X → Y) (xs : List X) → length (map f xs) ≡ length xs
length_mapped f [] = refl
length_mapped f (x ∷ xs) = ap suc (length_mapped f xs)

pub free_found : (both : BothHooks) (hook : Hook) (place handle : ℕ) (t : PlainTable) → BothWhole both → item_at (tables_on hook both) place ≡ Some t →
    IsLowestFree t.masks handle → free_handle hook t.chain t.pref (all_rows both) ≡ handle
free_found both hook place handle t whole at free =
    let mine : List Row = filter (in_table hook t.chain t.pref) (all_rows both) in
    let asked : (n : ℕ) → list_any (has_handle n) mine ≡ any_handle n t.masks =
    λ n. ap (list_any (has_handle n)) (rows_found both hook place t whole at) ∙ table_handle hook t n in
    let long = length_mapped (λ (r : Row). r.handle) mine in
    let short = length_filter_le (in_table hook t.chain t.pref) (all_rows both) in
    lowest_is (λ n. list_any (has_handle n) mine) (length (all_rows both)) (map (λ (r : Row). r.handle) mine) handle (omega arith)
    (λ m is. any_map (λ x. x == m) (λ (r : Row). r.handle) mine ∙ is)
    free.from_one (asked handle ∙ free.free) (λ lower low less. asked lower ∙ free.lowest lower low less)

none_used : (n : ℕ) → first_free (λ handle. list_any (has_handle handle) []) n 1 ≡ 1
none_used zero = refl
none_used (suc n) = refl

pub free_first : (both : BothHooks) (hook : Hook) (chain pref : ℕ) → list_any (is_table chain pref) (tables_on hook both) ≡ false →
    free_handle hook chain pref (all_rows both) ≡ 1
free_first both hook chain pref missing =
    ap (λ rows. first_free (λ handle. list_any (has_handle handle) rows) (length (all_rows both)) 1) (rows_missing both hook chain pref missing)
    ∙ none_used (length (all_rows both))
