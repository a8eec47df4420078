-- The lowest pref of a chain: tables rise, so that the first table of the chain has it.
use Rattle.std.proofs.Common.{◌≡◌, ℕ, Bool, true, ◌==◌, ◌&&◌, ◌≤◌, List, [], ◌∷◌, ◌++◌, Option, Some, None, option_map, refl, sym, ◌∙◌, ap, subst, arith, eqb-true}
use Rattle.std.specs.Prelude.{filter, find}
use Rattle.std.specs.List.{flat_map}
use Rattle.std.proofs.lemmas.Bool.Decides.{nat_tests}
use Rattle.tc_base.specs.declared.hook.Hook.{Hook}
use Rattle.filter_state.specs.States.{Row}
use Rattle.filter_state.specs.Sound.{Each}
use Rattle.filter_state.specs.Tables.{in_chain, lesser, lowest_pref}
use Rattle.filter_tables.specs.Plain.{PlainTable}
use Rattle.filter_tables.specs.Changes.{comes_before}
use Rattle.filter_tables.specs.Room.{AreRising}
use Rattle.filter_tables.specs.Whole.{HasSome, IsFull, AreWhole}
use Rattle.filter_tables.specs.Rows.{BothHooks, BothWhole, tables_on, rows_of_table, rows_of, all_rows}
use Rattle.filter_state.proofs.Pairs.{each_passing, each_weaker, each_append, each_flat_map, each_filter, pairs_filter}
use Rattle.row_laws.proofs.OfLookups.Heads.{head_of, find_head}
use Rattle.row_laws.proofs.OfLookups.Found.{whole_on, hook_self, table_each, some_rows, ByTable, kept_rows}

-- ---- the lowest of rows, none of which is below a pref
lesser_least : (a b n : ℕ) → n ≤ a → n ≤ b → n ≤ lesser a (Some b)
lesser_least a b n low lower = grind (arith, nat_tests)

abbrev IsAtLeast : ℕ → Option ℕ → Type 0
IsAtLeast n None = Unit {0}
IsAtLeast n (Some m) = n ≤ m

least_step : (a n : ℕ) (o : Option ℕ) → n ≤ a → IsAtLeast n o → n ≤ lesser a o
least_step a n None low lower = low
least_step a n (Some b) low lower = lesser_least a b n low lower

pref_least : (n : ℕ) (rows : List Row) → Each (λ (r : Row). n ≤ r.pref) rows → IsAtLeast n (lowest_pref rows)
pref_least n [] all = tt
pref_least n (r ∷ rs) all = least_step r.pref n (lowest_pref rs) all.0 (pref_least n rs all.1)

lesser_first : (a : ℕ) (o : Option ℕ) → IsAtLeast a o → lesser a o ≡ a
lesser_first a None least = refl
lesser_first a (Some b) least = grind (arith, nat_tests)

first_lowest : (n : ℕ) (rows more : List Row) → HasSome rows → Each (λ (r : Row). r.pref ≡ n) rows → Each (λ (r : Row). n ≤ r.pref) (rows ++ more) → lowest_pref (rows ++ more) ≡ Some n
first_lowest n [] more some all least = elim some [ ]
first_lowest n (r ∷ rs) more some all least =
    let low = subst (λ k. IsAtLeast k (lowest_pref (rs ++ more))) (sym all.0) (pref_least n (rs ++ more) least.1) in
    ap (λ k. Some k) (lesser_first r.pref (lowest_pref (rs ++ more)) low ∙ all.0)

-- ---- tables of one chain, which rise
behind : (t u : PlainTable) → comes_before t u ≡ true → t.chain ≡ u.chain → t.pref ≤ u.pref
behind t u before same = grind (arith, nat_tests)

all_behind : (chain : ℕ) (t : PlainTable) (us : List PlainTable) → t.chain ≡ chain → Each (λ (u : PlainTable). (u.chain == chain) ≡ true) us → Each (λ u. comes_before t u ≡ true) us →
    Each (λ (u : PlainTable). t.pref ≤ u.pref) us
all_behind chain t [] here there before = tt
all_behind chain t (u ∷ us) here there before =
    (behind t u before.0 (here ∙ sym (eqb-true u.chain chain there.0)), all_behind chain t us here there.1 before.1)

rising_lowest : (hook : Hook) (chain : ℕ) (tables : List PlainTable) → Each (λ (t : PlainTable). (t.chain == chain) ≡ true) tables → Each IsFull tables → AreRising tables →
    lowest_pref (rows_of hook tables) ≡ option_map (λ (t : PlainTable). t.pref) (head_of tables)
unfolding rows_of
rising_lowest hook chain [] here full rising = refl
rising_lowest hook chain (t ∷ us) here full rising =
    first_lowest t.pref (rows_of_table hook t) (flat_map (rows_of_table hook) us) (some_rows hook t full.0) (table_each hook t (λ (r : Row). r.pref ≡ t.pref) (λ m f. refl))
    (each_append (λ (r : Row). t.pref ≤ r.pref) (rows_of_table hook t) (flat_map (rows_of_table hook) us)
    (table_each hook t (λ (r : Row). t.pref ≤ r.pref) (λ m f. omega arith))
    (each_flat_map (λ (r : Row). t.pref ≤ r.pref) (rows_of_table hook) us
    (each_weaker (λ (u : PlainTable). t.pref ≤ u.pref) (λ u. Each (λ (r : Row). t.pref ≤ r.pref) (rows_of_table hook u))
    (λ u low. table_each hook u (λ (r : Row). t.pref ≤ r.pref) (λ m f. low)) us
    (all_behind chain t us (eqb-true t.chain chain here.0) here.1 rising.0))))

by_chain : (hook : Hook) (chain : ℕ) → ByTable hook (in_chain hook chain) (λ (t : PlainTable). t.chain == chain)
by_chain hook chain = record {
  here = λ t m f. ap (λ b. b && t.chain == chain) (hook_self hook);
  there = λ h other t m f. ap (λ b. b && t.chain == chain) other;
}

pub lowest_found : (both : BothHooks) (hook : Hook) (chain : ℕ) → BothWhole both →
    lowest_pref (filter (in_chain hook chain) (all_rows both)) ≡ option_map (λ (t : PlainTable). t.pref) (find (λ (t : PlainTable). t.chain == chain) (tables_on hook both))
lowest_found both hook chain whole =
    let here : AreWhole (tables_on hook both) = whole_on hook both whole in
    let test : PlainTable → Bool = λ (t : PlainTable). t.chain == chain in
    ap lowest_pref (kept_rows both hook (in_chain hook chain) test (by_chain hook chain))
    ∙ rising_lowest hook chain (filter test (tables_on hook both)) (each_passing test (tables_on hook both))
    (each_filter IsFull test (tables_on hook both) here.full) (pairs_filter (λ t u. comes_before t u ≡ true) test (tables_on hook both) here.rising)
    ∙ ap (option_map (λ (t : PlainTable). t.pref)) (sym (find_head test (tables_on hook both)))
