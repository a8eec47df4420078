-- A mask of the lists, by what the state has that they spell.
use Rattle.std.proofs.Common.{◌≡◌, ◌∙◌, ℕ, List, [], ◌∷◌, map, slice_get, Some, refl, sym, ap, subst}
use Rattle.tc_base.specs.declared.hook.Hook.{Hook}
use Rattle.filter_index.specs.declared.filter.Filter.{Filter}
use Rattle.filter_state.specs.declared.edit.FilterLine.{FilterLine}
use Rattle.filter_state.specs.States.{Row, State}
use Rattle.filter_tables.specs.Plain.{PlainMask, PlainTable}
use Rattle.filter_tables.specs.Places.{item_at}
use Rattle.filter_tables.specs.Rows.{tables_on, row_of}
use Rattle.hook_lists.specs.declared.kept.Kept.{Kept}
use Rattle.hook_lists.specs.States.{both_of, AreKept}
use Rattle.filter_lists.specs.Spells.{Spells}
use Rattle.state_laws.proofs.OfOrder.Same.{order_same}
use Rattle.head_laws.specs.Heads.{head_of}
use Rattle.head_laws.proofs.MaskRows.{mask_rows}
use Rattle.hook_store_law.specs.OfEffects.Parts.{filter_of}
use Rattle.hook_law.specs.Records.{StatedTable}
use Rattle.hook_store_law.specs.Stated.{TableNames, table_stated, filter_stated}
use Rattle.desk_heads.proofs.OfHeadCommits.Places.{map_at, item_get}
use Rattle.desk_heads.proofs.TablesGiven.{lists_are}
use Rattle.shared_hook.specs.OfDeskEdits.OfMoves.Tells.{stated, IsMaskIn, IsListOf}

twice : (hook : Hook) (t : PlainTable) (m : PlainMask) (fs : List Filter) → map stated fs ≡ map filter_stated (map filter_of (map (row_of hook t m) fs))
twice hook t m [] = refl
twice hook t m (f ∷ fs) = let rest = twice hook t m fs in λ i. stated f ∷ rest i

-- a mask at a place of the lists
pub list_at : (kept : Kept) (are : AreKept kept) (s : State) (spells : Spells kept s) (hook : Hook) (place at : ℕ) (t : PlainTable) (m : PlainMask) → item_at (tables_on hook (both_of kept)) place ≡ Some t
    → item_at t.masks at ≡ Some m → IsListOf s hook m.serial m
list_at kept are s spells hook place at t m here within = record {
  serial_is = refl;
  filters = twice hook t m m.filters ∙ ap (λ (rows : List Row). map filter_stated (map filter_of rows)) (sym (mask_rows (both_of kept) hook place at t m are.whole are.sound.together here within) ∙ order_same m.serial spells.rows);
  here = record {
    place = place;
    among = at;
    table = table_stated (head_of t);
    there = subst (λ (ts : List (StatedTable TableNames)). slice_get ts place ≡ Some (table_stated (head_of t))) (lists_are kept s hook are spells)
        (map_at table_stated (map head_of (tables_on hook (both_of kept))) place (head_of t) (map_at head_of (tables_on hook (both_of kept)) place t (item_get (tables_on hook (both_of kept)) place t here)));
    has = map_at (λ (p : PlainMask). p.serial) t.masks at m (item_get t.masks at m within);
  };
}

-- a table has one mask with some words
pub one_in : (s : State) (line : FilterLine) (pref : ℕ) (words : List ℕ) (one other : ℕ) → IsMaskIn s line pref words one → IsMaskIn s line pref words other → one ≡ other
one_in s line pref words one other x z =
    let same : Some x.row ≡ Some z.row = sym x.there ∙ z.there in let rows : x.row ≡ z.row = cc same in
    sym x.serial_is ∙ (ap (λ (r : Row). r.mask_serial) rows ∙ z.serial_is)
