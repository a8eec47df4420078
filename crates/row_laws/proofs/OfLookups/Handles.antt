-- The filter of a handle.
use Rattle.std.proofs.Common.{◌≡◌, ℕ, Bool, false, ◌&&◌, List, Some, None, ◌∙◌, ap}
use Rattle.std.specs.Prelude.{find}
use Rattle.std.specs.List.{list_any}
use Rattle.tc_base.specs.declared.hook.Hook.{Hook}
use Rattle.filter_state.specs.States.{Row}
use Rattle.filter_state.specs.Sound.{EachPair, GoTogether}
use Rattle.filter_state.specs.Tables.{in_table, has_handle, first_where, filter_row}
use Rattle.filter_index.specs.declared.filter.Filter.{Filter}
use Rattle.filter_index.specs.Listed as listed
use Rattle.filter_tables.specs.Plain.{PlainMask, PlainTable}
use Rattle.filter_tables.specs.Places.{item_at}
use Rattle.filter_tables.specs.Changes.{any_handle, has_handle_in, is_table}
use Rattle.filter_tables.specs.Rows.{BothHooks, BothWhole, tables_on, row_of, rows_of_mask, rows_of_table, all_rows}
use Rattle.row_laws.proofs.OfLookups.Heads.{head_of, first_head, first_and, any_and, none_kept}
use Rattle.filter_state.proofs.Pairs.{any_map}
use Rattle.row_laws.proofs.OfLookups.Blocks.{any_blocks}
use Rattle.row_laws.proofs.OfLookups.Among.{Among, among_at, among_found, among_map, among_blocks, one_kept}
use Rattle.row_laws.proofs.OfLookups.Found.{rows_found, rows_missing}
use Rattle.row_laws.proofs.OfLookups.Together.{table_together, handles_apart}

pub table_handle : (hook : Hook) (t : PlainTable) (handle : ℕ) → list_any (has_handle handle) (rows_of_table hook t) ≡ any_handle handle t.masks
table_handle hook t handle =
    any_blocks (has_handle handle) (has_handle_in handle) (rows_of_mask hook t) (λ m. any_map (has_handle handle) (row_of hook t m) m.filters) t.masks

pub handle_found : (both : BothHooks) (hook : Hook) (place handle : ℕ) (t : PlainTable) → BothWhole both → item_at (tables_on hook both) place ≡ Some t →
    list_any (λ row. in_table hook t.chain t.pref row && has_handle handle row) (all_rows both) ≡ any_handle handle t.masks
handle_found both hook place handle t whole at =
    any_and (in_table hook t.chain t.pref) (has_handle handle) (all_rows both)
    ∙ ap (list_any (has_handle handle)) (rows_found both hook place t whole at) ∙ table_handle hook t handle

pub handle_missing : (both : BothHooks) (hook : Hook) (chain pref handle : ℕ) → list_any (is_table chain pref) (tables_on hook both) ≡ false →
    list_any (λ row. in_table hook chain pref row && has_handle handle row) (all_rows both) ≡ false
handle_missing both hook chain pref handle missing =
    any_and (in_table hook chain pref) (has_handle handle) (all_rows both) ∙ ap (list_any (has_handle handle)) (rows_missing both hook chain pref missing)

-- ---- its row
pub row_among : (hook : Hook) (t : PlainTable) (m : PlainMask) (f : Filter) (at : ℕ) → item_at t.masks at ≡ Some m → Among f m.filters → Among (row_of hook t m f) (rows_of_table hook t)
row_among hook t m f at here among =
    among_blocks (rows_of_mask hook t) m (row_of hook t m f) t.masks (among_at t.masks at m here) (among_map (row_of hook t m) f m.filters among)

pub row_found : (both : BothHooks) (hook : Hook) (place at handle : ℕ) (t : PlainTable) (m : PlainMask) (f : Filter) →
    BothWhole both → EachPair GoTogether (all_rows both) → item_at (tables_on hook both) place ≡ Some t → item_at t.masks at ≡ Some m →
    find (listed.has_handle handle) m.filters ≡ Some f → filter_row hook t.chain t.pref handle (all_rows both) ≡ Some (row_of hook t m f)
row_found both hook place at handle t m f whole together here there found =
    let of = among_found (listed.has_handle handle) m.filters f found in
    first_and (in_table hook t.chain t.pref) (has_handle handle) (all_rows both)
    ∙ ap (first_where (has_handle handle)) (rows_found both hook place t whole here)
    ∙ first_head (has_handle handle) (rows_of_table hook t)
    ∙ ap head_of (one_kept (has_handle handle) (row_of hook t m f) (rows_of_table hook t) (row_among hook t m f at there of.0) of.1
    (handles_apart handle hook t (table_together both hook place t whole together here)))

-- where no row passes there is no first
no_first : (test : Row → Bool) (rows : List Row) → list_any test rows ≡ false → first_where test rows ≡ None
no_first test rows none = first_head test rows ∙ ap head_of (none_kept test rows none)

pub filter_missing : (both : BothHooks) (hook : Hook) (place handle : ℕ) (t : PlainTable) → BothWhole both → item_at (tables_on hook both) place ≡ Some t →
    any_handle handle t.masks ≡ false → filter_row hook t.chain t.pref handle (all_rows both) ≡ None
filter_missing both hook place handle t whole at none =
    no_first (λ row. in_table hook t.chain t.pref row && has_handle handle row) (all_rows both) (handle_found both hook place handle t whole at ∙ none)

pub no_filter : (both : BothHooks) (hook : Hook) (chain pref handle : ℕ) → list_any (is_table chain pref) (tables_on hook both) ≡ false →
    filter_row hook chain pref handle (all_rows both) ≡ None
no_filter both hook chain pref handle missing =
    no_first (λ row. in_table hook chain pref row && has_handle handle row) (all_rows both) (handle_missing both hook chain pref handle missing)
