-- The rows of one table go together: their handles differ, and so do mask and key of any two.
use Rattle.std.proofs.Common.{◌≡◌, ℕ, true, List, [], ◌∷◌, Some, refl, sym, ◌∙◌, subst, eqb-true}
use Rattle.std.specs.Str.{bytes_eq}
use Rattle.std.proofs.lemmas.Bool.{and_parts}
use Rattle.std.proofs.lemmas.Slice.Eq.{bytes_eq-Decides}
use Rattle.tc_base.specs.declared.hook.Hook.{Hook}
use Rattle.filter_state.specs.States.{Row}
use Rattle.filter_state.specs.Sound.{Each, EachPair, GoTogether}
use Rattle.filter_state.specs.Tables.{in_table, has_handle, has_mask, has_match}
use Rattle.filter_tables.specs.Plain.{PlainTable}
use Rattle.filter_tables.specs.Places.{item_at}
use Rattle.filter_tables.specs.Rows.{BothHooks, BothWhole, tables_on, rows_of_table, all_rows}
use Rattle.filter_state.proofs.Pairs.{pairs_filter, each_both}
use Rattle.row_laws.proofs.OfLookups.Pairs.{pairs_both}
use Rattle.row_laws.proofs.OfLookups.Found.{table_each, rows_found}
use Rattle.row_laws.proofs.OfLookups.Among.{NotBoth}

pub bytes_eq_true : (a b : List ℕ) → bytes_eq a b ≡ true → a ≡ b
bytes_eq_true a b e = (bytes_eq-Decides a b).0 e

pub table_together : (both : BothHooks) (hook : Hook) (place : ℕ) (t : PlainTable) → BothWhole both → EachPair GoTogether (all_rows both) → item_at (tables_on hook both) place ≡ Some t →
    EachPair GoTogether (rows_of_table hook t)
table_together both hook place t whole together at =
    subst (EachPair GoTogether) (rows_found both hook place t whole at) (pairs_filter GoTogether (in_table hook t.chain t.pref) (all_rows both) together)

-- ---- one serial
abbrev SameTable : Row → Row → Type 0
SameTable x y = x.table ≡ y.table

same_pairs : (serial : ℕ) (rows : List Row) → Each (λ (r : Row). r.table ≡ serial) rows → EachPair SameTable rows
same_pairs serial [] all = tt
same_pairs serial (x ∷ xs) all =
    (each_both (λ (r : Row). r.table ≡ serial) (λ (r : Row). r.table ≡ serial) (SameTable x) (λ r is _. all.0 ∙ sym is) xs all.1 all.1, same_pairs serial xs all.1)

same_tables : (hook : Hook) (t : PlainTable) → EachPair SameTable (rows_of_table hook t)
same_tables hook t = same_pairs t.serial (rows_of_table hook t) (table_each hook t (λ (r : Row). r.table ≡ t.serial) (λ m f. refl))

-- ---- no two of one handle, and no two of one mask and key
other_handle : (handle : ℕ) (x y : Row) → GoTogether x y → SameTable x y → NotBoth (has_handle handle) x y
other_handle handle x y together same here there = together.handles same (eqb-true x.handle handle here ∙ sym (eqb-true y.handle handle there))

pub handles_apart : (handle : ℕ) (hook : Hook) (t : PlainTable) → EachPair GoTogether (rows_of_table hook t) → EachPair (NotBoth (has_handle handle)) (rows_of_table hook t)
handles_apart handle hook t together =
    pairs_both GoTogether SameTable (NotBoth (has_handle handle)) (other_handle handle) (rows_of_table hook t) together (same_tables hook t)

other_match : (words key : List ℕ) (x y : Row) → GoTogether x y → SameTable x y → NotBoth (has_match words key) x y
other_match words key x y together same here there =
    let h = and_parts (has_mask words x) (bytes_eq x.key key) here in
    let k = and_parts (has_mask words y) (bytes_eq y.key key) there in
    together.matches same (bytes_eq_true x.mask words h.0 ∙ sym (bytes_eq_true y.mask words k.0)) (bytes_eq_true x.key key h.1 ∙ sym (bytes_eq_true y.key key k.1))

pub matches_apart : (words key : List ℕ) (hook : Hook) (t : PlainTable) → EachPair GoTogether (rows_of_table hook t) → EachPair (NotBoth (has_match words key)) (rows_of_table hook t)
matches_apart words key hook t together =
    pairs_both GoTogether SameTable (NotBoth (has_match words key)) (other_match words key) (rows_of_table hook t) together (same_tables hook t)
