-- Rows of other tables, of other masks and of other filters than a row's.
use Rattle.std.proofs.Common.{◌≡◌, ℕ, Bool, true, false, ◌&&◌, ◌||◌, ◌==◌, ◌<◌, List, refl, sym, ◌∙◌, ap, arith}
use Rattle.std.specs.Prelude.{nat_lt}
use Rattle.std.specs.List.{flat_map}
use Rattle.std.proofs.lemmas.Bool.{false≢true}
use Rattle.std.proofs.lemmas.Bool.Decides.{nat_tests}
use Rattle.tc_base.specs.declared.hook.Hook.{Hook}
use Rattle.tc_base.specs.declared.hook.Hook.TheVariants as hooks
use Rattle.filter_state.specs.States.{Row}
use Rattle.filter_state.specs.Sound.{Each, GoTogether}
use Rattle.filter_state.specs.Tables.{hook_eq, in_table}
use Rattle.filter_tables.specs.Plain.{PlainMask, PlainTable}
use Rattle.filter_tables.specs.Changes.{comes_before}
use Rattle.filter_tables.specs.Rows.{BothHooks, row_of, rows_of_mask, rows_of_table, rows_of}
use Rattle.filter_state.proofs.Pairs.{each_of, each_weaker, each_flat_map, each_map}
use Rattle.row_laws.proofs.OfChanges.Hooks.{rows_ahead, rows_after}

-- ---- rows of other tables
abbrev pub IsOutside : Hook → PlainTable → Row → Type 0
IsOutside hook table row = in_table hook table.chain table.pref row ≡ false

later_apart : (b : Bool) (c p d q : ℕ) → (nat_lt c d || (c == d && nat_lt p q)) ≡ true → ((b && d == c) && q == p) ≡ false
later_apart false c p d q before = refl
later_apart true c p d q before = grind (arith, nat_tests)

earlier_apart : (b : Bool) (c p d q : ℕ) → (nat_lt d c || (d == c && nat_lt q p)) ≡ true → ((b && d == c) && q == p) ≡ false
earlier_apart false c p d q before = refl
earlier_apart true c p d q before = grind (arith, nat_tests)

-- what holds of all rows that a table could spell holds of those that it spells
pub each_of_table : (P : Row → Type 0) (hook : Hook) (table : PlainTable) → ((m : PlainMask) → Each P (rows_of_mask hook table m)) → Each P (rows_of_table hook table)
each_of_table P hook table one = each_flat_map P (rows_of_mask hook table) table.masks (each_of (λ m. Each P (rows_of_mask hook table m)) one table.masks)

each_of_tables : (P : Row → Type 0) (Q : PlainTable → Type 0) (hook : Hook) → ((t : PlainTable) → Q t → Each P (rows_of_table hook t)) → (tables : List PlainTable) → Each Q tables →
    Each P (rows_of hook tables)
unfolding rows_of
each_of_tables P Q hook one tables all = each_flat_map P (rows_of_table hook) tables (each_weaker Q (λ t. Each P (rows_of_table hook t)) one tables all)

pub later_outside : (hook : Hook) (table : PlainTable) (tables : List PlainTable) → Each (λ t. comes_before table t ≡ true) tables → Each (IsOutside hook table) (rows_of hook tables)
later_outside hook table =
    each_of_tables (IsOutside hook table) (λ t. comes_before table t ≡ true) hook
    (λ t before. each_of_table (IsOutside hook table) hook t
    (λ m. each_map (IsOutside hook table) (row_of hook t m) m.filters (each_of _ (λ f. later_apart (hook_eq hook hook) table.chain table.pref t.chain t.pref before) m.filters)))

pub earlier_outside : (hook : Hook) (table : PlainTable) (tables : List PlainTable) → Each (λ t. comes_before t table ≡ true) tables → Each (IsOutside hook table) (rows_of hook tables)
earlier_outside hook table =
    each_of_tables (IsOutside hook table) (λ t. comes_before t table ≡ true) hook
    (λ t before. each_of_table (IsOutside hook table) hook t
    (λ m. each_map (IsOutside hook table) (row_of hook t m) m.filters (each_of _ (λ f. earlier_apart (hook_eq hook hook) table.chain table.pref t.chain t.pref before) m.filters)))

-- the rows of the other hook
other_outside : (hook other : Hook) (table : PlainTable) → hook_eq other hook ≡ false → (tables : List PlainTable) → Each (IsOutside hook table) (rows_of other tables)
other_outside hook other table differ tables =
    each_of_tables (IsOutside hook table) (λ t. Unit {0}) other
    (λ t any. each_of_table (IsOutside hook table) other t
    (λ m. each_map (IsOutside hook table) (row_of other t m) m.filters (each_of _ (λ f. ap (λ b. (b && t.chain == table.chain) && t.pref == table.pref) differ) m.filters)))
    tables (each_of (λ t. Unit {0}) (λ t. tt) tables)

pub ahead_outside : (hook : Hook) (table : PlainTable) (both : BothHooks) → Each (IsOutside hook table) (rows_ahead hook both)
ahead_outside hooks.Ingress table both = tt
ahead_outside hooks.Egress table both = other_outside hooks.Egress hooks.Ingress table refl both.ingress

pub after_outside : (hook : Hook) (table : PlainTable) (both : BothHooks) → Each (IsOutside hook table) (rows_after hook both)
after_outside hooks.Ingress table both = other_outside hooks.Ingress hooks.Egress table refl both.egress
after_outside hooks.Egress table both = tt

-- ---- rows of other masks
abbrev pub IsOfOther : ℕ → Row → Type 0
IsOfOther serial row = serial ≡ row.mask_serial → ⊥

hook_itself : (hook : Hook) → hook_eq hook hook ≡ true
hook_itself hooks.Ingress = refl
hook_itself hooks.Egress = refl

pub itself : (n : ℕ) → (n == n) ≡ true
itself n = grind (arith, nat_tests)

-- a row of a table is in it
pub inside : (hook : Hook) (table : PlainTable) (row : Row) → hook ≡ row.hook → table.chain ≡ row.chain → table.pref ≡ row.pref → in_table hook table.chain table.pref row ≡ true
inside hook table row same_hook same_chain same_pref =
    ap (λ h. (hook_eq row.hook h && row.chain == table.chain) && row.pref == table.pref) same_hook
    ∙ ap (λ b. (b && row.chain == table.chain) && row.pref == table.pref) (hook_itself row.hook)
    ∙ ap (λ n. row.chain == n && row.pref == table.pref) same_chain
    ∙ ap (λ b. b && row.pref == table.pref) (itself row.chain)
    ∙ ap (λ n. row.pref == n) same_pref ∙ itself row.pref

-- a row outside a table has another mask than a row of it
pub outside_other : (hook : Hook) (table : PlainTable) (x y : Row) → x.hook ≡ hook → x.chain ≡ table.chain → x.pref ≡ table.pref → GoTogether x y → IsOutside hook table y → IsOfOther x.mask_serial y
outside_other hook table x y same_hook same_chain same_pref together outside = λ same.
    let all = together.same_table (together.same_mask same).0 in
    false≢true (sym outside ∙ inside hook table y (sym same_hook ∙ all.0) (sym same_chain ∙ all.1) (sym same_pref ∙ all.2))

pub less_apart : (m n : ℕ) → m < n → m ≡ n → ⊥
less_apart m n less same = grind (arith, nat_tests)

pub later_masks : (hook : Hook) (table : PlainTable) (serial : ℕ) (masks : List PlainMask) → Each (λ (m : PlainMask). serial < m.serial) masks → Each (IsOfOther serial) (flat_map (rows_of_mask hook table) masks)
later_masks hook table serial masks rising =
    each_flat_map (IsOfOther serial) (rows_of_mask hook table) masks
    (each_weaker (λ (m : PlainMask). serial < m.serial) (λ m. Each (IsOfOther serial) (rows_of_mask hook table m))
    (λ m less. each_map (IsOfOther serial) (row_of hook table m) m.filters (each_of _ (λ f. less_apart serial m.serial less) m.filters)) masks rising)
