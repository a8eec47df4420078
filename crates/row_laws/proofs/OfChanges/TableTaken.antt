-- A table taken out is its rows taken out.
use Rattle.std.proofs.Common.{◌≡◌, ℕ, List, ◌∷◌, ◌++◌, not, filter, Some, refl, sym, ◌∙◌, ap, subst}
use Rattle.std.proofs.lemmas.List.{append_assoc}
use Rattle.tc_base.specs.declared.hook.Hook.{Hook}
use Rattle.filter_state.specs.States.{Row}
use Rattle.filter_state.specs.Sound.{Each}
use Rattle.filter_state.specs.Tables.{in_table}
use Rattle.filter_tables.specs.Plain.{PlainTable}
use Rattle.filter_tables.specs.Places.{item_at, without_at}
use Rattle.filter_tables.specs.Room.{AreRising}
use Rattle.filter_tables.specs.Whole.{AreWhole}
use Rattle.filter_tables.specs.Rows.{BothHooks, tables_on, on_hook, row_of, rows_of_table, rows_of, all_rows, BothWhole}
use Rattle.filter_state.proofs.Pairs.{each_weaker, each_append, each_of, each_map}
use Rattle.row_laws.proofs.OfChanges.Lists.{CutAt, cut_at, pairs_across}
use Rattle.row_laws.proofs.OfChanges.Hooks.{rows_ahead, rows_after, hook_changed, tables_joined, ahead_of_table, after_table, around_table}
use Rattle.row_laws.proofs.OfChanges.Others.{IsOutside, each_of_table, inside, earlier_outside, ahead_outside}
use Rattle.row_laws.proofs.OfChanges.Filters.{Passes, none_left, all_pass, left_around, pass_between}
use Rattle.row_laws.proofs.OfChanges.Put.{table_outside}
use Rattle.row_laws.proofs.OfChanges.Whole.{IsEarlier, whole_on}

ahead_of_outside : (hook : Hook) (both : BothHooks) (place : ℕ) (table : PlainTable) (cut : CutAt (tables_on hook both) place table) → AreRising (tables_on hook both) →
    Each (IsOutside hook table) (ahead_of_table hook both cut.front)
ahead_of_outside hook both place table cut rising =
    each_append (IsOutside hook table) (rows_ahead hook both) (rows_of hook cut.front) (ahead_outside hook table both)
    (earlier_outside hook table cut.front
    (each_weaker (λ t. Each (IsEarlier t) (table ∷ cut.back)) (λ t. IsEarlier t table) (λ t all. all.0) cut.front
    (pairs_across IsEarlier cut.front (table ∷ cut.back) (subst AreRising cut.whole rising))))

own_inside : (hook : Hook) (table : PlainTable) → Each (Passes (in_table hook table.chain table.pref)) (rows_of_table hook table)
own_inside hook table =
    each_of_table (Passes (in_table hook table.chain table.pref)) hook table
    (λ m. each_map (Passes (in_table hook table.chain table.pref)) (row_of hook table m) m.filters (each_of _ (λ f. inside hook table (row_of hook table m f) refl refl refl) m.filters))

regrouped : (a b c d : List Row) → a ++ ((b ++ c) ++ d) ≡ (a ++ b) ++ (c ++ d)
regrouped a b c d = simp append_assoc

pub table_rows_taken : (both : BothHooks) (hook : Hook) (place : ℕ) (table : PlainTable) → BothWhole both → item_at (tables_on hook both) place ≡ Some table →
    all_rows (on_hook hook (without_at place) both) ≡ filter (λ row. not (in_table hook table.chain table.pref row)) (all_rows both)
table_rows_taken both hook place table whole there =
    let cut : CutAt (tables_on hook both) place table = cut_at (tables_on hook both) place table there in
    let tables : AreWhole (tables_on hook both) = whole_on hook both whole in
    let ahead : List Row = ahead_of_table hook both cut.front in
    let behind : List Row = after_table hook both cut.back in
    let left : List Row → List Row = filter (λ row. not (in_table hook table.chain table.pref row)) in
    hook_changed hook both (without_at place)
    ∙ ap (λ ts. rows_ahead hook both ++ (rows_of hook ts ++ rows_after hook both)) cut.gone
    ∙ ap (λ rows. rows_ahead hook both ++ (rows ++ rows_after hook both)) (tables_joined hook cut.front cut.back)
    ∙ regrouped (rows_ahead hook both) (rows_of hook cut.front) (rows_of hook cut.back) (rows_after hook both)
    ∙ sym (ap left (around_table hook both place table cut)
    ∙ left_around (in_table hook table.chain table.pref) ahead (rows_of_table hook table) behind (ahead_of_outside hook both place table cut tables.rising) (table_outside hook both place table cut tables.rising)
    ∙ ap (λ rows. ahead ++ (rows ++ behind)) (none_left (in_table hook table.chain table.pref) (rows_of_table hook table) (own_inside hook table)))

pub table_rows_gone : (both : BothHooks) (hook : Hook) (place : ℕ) (table : PlainTable) → BothWhole both → item_at (tables_on hook both) place ≡ Some table →
    filter (in_table hook table.chain table.pref) (all_rows both) ≡ rows_of_table hook table
table_rows_gone both hook place table whole there =
    let cut : CutAt (tables_on hook both) place table = cut_at (tables_on hook both) place table there in
    let tables : AreWhole (tables_on hook both) = whole_on hook both whole in
    ap (filter (in_table hook table.chain table.pref)) (around_table hook both place table cut)
    ∙ pass_between (in_table hook table.chain table.pref) (ahead_of_table hook both cut.front) (rows_of_table hook table) (after_table hook both cut.back)
    (ahead_of_outside hook both place table cut tables.rising) (table_outside hook both place table cut tables.rising)
    ∙ all_pass (in_table hook table.chain table.pref) (rows_of_table hook table) (own_inside hook table)
