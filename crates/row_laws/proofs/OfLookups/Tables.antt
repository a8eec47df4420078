-- The table of a row: its protocol and serial, and how many tables a hook has.
use Rattle.std.proofs.Common.{◌≡◌, ℕ, true, false, List, length, Option, Some, None, option_map, refl, sym, ◌∙◌, ap, subst, arith}
use Rattle.std.specs.Prelude.{filter}
use Rattle.std.specs.List.{list_any}
use Rattle.std.proofs.lemmas.Bool.Decides.{nat_tests}
use Rattle.std.proofs.lemmas.Option.{none-some, same_Some}
use Rattle.tc_base.specs.declared.hook.Hook.{Hook}
use Rattle.filter_state.specs.States.{Row}
use Rattle.filter_state.specs.Sound.{Each, EachPair, GoTogether}
use Rattle.filter_state.specs.Tables.{in_hook, in_table, table_row, table_or_next, table_count, tables_of, distinct}
use Rattle.filter_tables.specs.Plain.{PlainTable}
use Rattle.filter_tables.specs.Places.{item_at}
use Rattle.filter_tables.specs.Changes.{is_table, comes_before}
use Rattle.filter_tables.specs.Whole.{HasSome, IsFull, AreWhole}
use Rattle.filter_tables.specs.Rows.{BothHooks, BothWhole, tables_on, rows_of_table, rows_of, all_rows}
use Rattle.row_laws.proofs.OfLookups.Heads.{head_of, first_head, filter_all, head_says}
use Rattle.filter_state.proofs.Pairs.{each_of, each_weaker, pairs_filter}
use Rattle.row_laws.proofs.OfLookups.Pairs.{pairs_both, pairs_blocks}
use Rattle.row_laws.proofs.OfLookups.Numbers.{count_blocks, tables_blocks, tables_each, some_tables}
use Rattle.row_laws.proofs.OfLookups.Found.{whole_on, hook_self, table_each, some_rows, ByTable, kept_rows, item_each, rows_found, rows_missing}

-- ---- the first row of a table
pub full_at : (both : BothHooks) (hook : Hook) (place : ℕ) (t : PlainTable) → BothWhole both → item_at (tables_on hook both) place ≡ Some t → IsFull t
full_at both hook place t whole at =
    let here : AreWhole (tables_on hook both) = whole_on hook both whole in
    item_each IsFull (tables_on hook both) place t here.full at

row_says : {V : Type 0} (both : BothHooks) (hook : Hook) (place : ℕ) (t : PlainTable) (g : Row → V) (v : V) → BothWhole both → item_at (tables_on hook both) place ≡ Some t →
    Each (λ r. g r ≡ v) (rows_of_table hook t) → option_map g (table_row hook t.chain t.pref (all_rows both)) ≡ Some v
row_says both hook place t g v whole at all =
    ap (option_map g) (first_head (in_table hook t.chain t.pref) (all_rows both) ∙ ap head_of (rows_found both hook place t whole at))
    ∙ head_says g v (rows_of_table hook t) (some_rows hook t (full_at both hook place t whole at)) all

pub protocol_found : (both : BothHooks) (hook : Hook) (place : ℕ) (t : PlainTable) → BothWhole both → item_at (tables_on hook both) place ≡ Some t →
    option_map (λ (row : Row). row.protocol) (table_row hook t.chain t.pref (all_rows both)) ≡ Some t.protocol
protocol_found both hook place t whole at =
    row_says both hook place t (λ (r : Row). r.protocol) t.protocol whole at (table_each hook t (λ (r : Row). r.protocol ≡ t.protocol) (λ m f. refl))

serial_said : (row : Option Row) (made serial : ℕ) → option_map (λ (r : Row). r.table) row ≡ Some serial → table_or_next row made ≡ serial
serial_said None made serial e = absurd (none-some serial e)
serial_said (Some row) made serial e = same_Some row.table serial e

pub serial_found : (both : BothHooks) (hook : Hook) (place made : ℕ) (t : PlainTable) → BothWhole both → item_at (tables_on hook both) place ≡ Some t →
    table_or_next (table_row hook t.chain t.pref (all_rows both)) made ≡ t.serial
serial_found both hook place made t whole at =
    serial_said (table_row hook t.chain t.pref (all_rows both)) made t.serial
    (row_says both hook place t (λ (r : Row). r.table) t.serial whole at (table_each hook t (λ (r : Row). r.table ≡ t.serial) (λ m f. refl)))

pub row_missing : (both : BothHooks) (hook : Hook) (chain pref : ℕ) → list_any (is_table chain pref) (tables_on hook both) ≡ false →
    table_row hook chain pref (all_rows both) ≡ None
row_missing both hook chain pref missing =
    first_head (in_table hook chain pref) (all_rows both) ∙ ap head_of (rows_missing both hook chain pref missing)

-- ---- tables of one serial have one chain and pref, so that tables that rise have different serials
by_hook : (hook : Hook) → ByTable hook (in_hook hook) (λ (t : PlainTable). true)
by_hook hook = record { here = λ t m f. hook_self hook; there = λ h other t m f. other }

pub hook_rows : (both : BothHooks) (hook : Hook) → filter (in_hook hook) (all_rows both) ≡ rows_of hook (tables_on hook both)
hook_rows both hook =
    kept_rows both hook (in_hook hook) (λ (t : PlainTable). true) (by_hook hook)
    ∙ ap (rows_of hook) (filter_all (λ (t : PlainTable). true) (tables_on hook both) (each_of (λ t. true ≡ true) (λ t. refl) (tables_on hook both)))

abbrev IsOf : PlainTable → Row → Type 0
IsOf t row = (row.table ≡ t.serial) × (row.chain ≡ t.chain) × (row.pref ≡ t.pref)

abbrev OneSerial : PlainTable → PlainTable → Type 0
OneSerial t u = t.serial ≡ u.serial → (t.chain ≡ u.chain) × (t.pref ≡ u.pref)

one_serial : (t u : PlainTable) (x y : Row) → IsOf t x → IsOf u y → GoTogether x y → OneSerial t u
one_serial t u x y of too together same =
    let agree = together.same_table (of.0 ∙ same ∙ sym too.0) in
    (sym of.1 ∙ agree.1 ∙ too.1, sym of.2 ∙ agree.2 ∙ too.2)

not_before : (t u : PlainTable) → OneSerial t u → comes_before t u ≡ true → t.serial ≡ u.serial → ⊥
not_before t u one before same = let agree = one same in grind (arith, nat_tests)

pub apart_serials : (hook : Hook) (tables : List PlainTable) → AreWhole tables → EachPair GoTogether (rows_of hook tables) → EachPair (λ (t u : PlainTable). t.serial ≡ u.serial → ⊥) tables
unfolding rows_of
apart_serials hook tables whole together =
    pairs_both OneSerial (λ t u. comes_before t u ≡ true) (λ t u. t.serial ≡ u.serial → ⊥) not_before tables
    (pairs_blocks GoTogether IsOf OneSerial (rows_of_table hook) (λ t. table_each hook t (IsOf t) (λ m f. (refl, refl, refl))) one_serial tables
    (each_weaker IsFull (λ t. HasSome (rows_of_table hook t)) (some_rows hook) tables whole.full) together)
    whole.rising

tables_counted : (hook : Hook) (tables : List PlainTable) → AreWhole tables → EachPair GoTogether (rows_of hook tables) →
    length (distinct (tables_of (rows_of hook tables))) ≡ length tables
unfolding rows_of
tables_counted hook tables whole together =
    ap (λ ns. length (distinct ns)) (tables_blocks (rows_of_table hook) tables)
    ∙ count_blocks (λ t. tables_of (rows_of_table hook t)) (λ (t : PlainTable). t.serial) tables
    (each_weaker IsFull (λ t. HasSome (tables_of (rows_of_table hook t))) (λ t full. some_tables (rows_of_table hook t) (some_rows hook t full)) tables whole.full)
    (λ t. tables_each (λ n. n ≡ t.serial) (rows_of_table hook t) (table_each hook t (λ (r : Row). r.table ≡ t.serial) (λ m f. refl)))
    (apart_serials hook tables whole together)

pub count_found : (both : BothHooks) (hook : Hook) → BothWhole both → EachPair GoTogether (all_rows both) → table_count hook (all_rows both) ≡ length (tables_on hook both)
count_found both hook whole together =
    ap (λ rows. length (distinct (tables_of rows))) (hook_rows both hook)
    ∙ tables_counted hook (tables_on hook both) (whole_on hook both whole)
    (subst (EachPair GoTogether) (hook_rows both hook) (pairs_filter GoTogether (in_hook hook) (all_rows both) together))
