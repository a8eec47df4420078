-- A table more with its first mask and filter is a row more, and keeps the tables whole.
use Rattle.std.proofs.Common.{◌≡◌, ℕ, ◌<◌, ◌==◌, ◌&&◌, ◌||◌, Bool, true, false, cond, List, [], ◌∷◌, ◌++◌, refl, sym, ap, subst, arith}
use Rattle.std.specs.Prelude.{nat_lt}
use Rattle.std.specs.List.{flat_map, list_any}
use Rattle.std.proofs.lemmas.Bool.{false≢true}
use Rattle.std.proofs.lemmas.Bool.Decides.{nat_tests}
use Rattle.std.proofs.lemmas.List.{append_assoc}
use Rattle.tc_base.specs.declared.hook.Hook.{Hook}
use Rattle.filter_state.specs.States.{Row}
use Rattle.filter_state.specs.Sound.{Each, EachPair}
use Rattle.filter_state.specs.Order.{SameRows, joined}
use Rattle.state_laws.proofs.OfOrder.Same.{same_refl, append_same, same_append}
use Rattle.filter_index.specs.declared.filter.Filter.{Filter}
use Rattle.filter_tables.specs.Plain.{PlainTable}
use Rattle.filter_tables.specs.Changes.{new_mask, with_table, comes_before, is_table}
use Rattle.filter_tables.specs.Whole.{HasSome, IsFull}
use Rattle.filter_tables.specs.Rows.{BothHooks, tables_on, on_hook, row_of, rows_of_mask, rows_of_table, rows_of, all_rows, BothWhole}
use Rattle.filter_state.proofs.Pairs.{each_weaker, each_front, each_back}
use Rattle.row_laws.proofs.OfChanges.Hooks.{rows_ahead, rows_after, hook_rows, hook_changed}
use Rattle.row_laws.proofs.OfChanges.Others.{IsOfOther}
use Rattle.row_laws.proofs.OfChanges.Put.{to_end, put_past}
use Rattle.row_laws.proofs.OfChanges.Whole.{IsEarlier, IsLower, HasFilters, whole_changed}
use Rattle.row_laws.proofs.OfChanges.MaskPut.{IsBelow, below_other}

-- ---- rows
with_step : (b : Bool) (hook : Hook) (table t : PlainTable) (row : Row) (tables : List PlainTable) → rows_of_table hook table ≡ row ∷ [] →
    Each (IsOfOther row.mask_serial) (rows_of_table hook t ++ rows_of hook tables) → SameRows (rows_of hook (with_table table tables)) (rows_of hook tables ++ (row ∷ [])) →
    SameRows (rows_of hook (cond b (t ∷ with_table table tables) (table ∷ (t ∷ tables)))) ((rows_of_table hook t ++ rows_of hook tables) ++ (row ∷ []))
unfolding rows_of
with_step true hook table t row tables is others later =
    subst (SameRows (rows_of_table hook t ++ rows_of hook (with_table table tables))) (sym (append_assoc (rows_of_table hook t) (rows_of hook tables) (row ∷ [])))
    (append_same (rows_of_table hook t) later)
with_step false hook table t row tables is others later =
    let rest : List Row = rows_of_table hook t ++ rows_of hook tables in
    let P : List Row → Type 0 = λ rows. SameRows (rows ++ rest) (rest ++ (row ∷ [])) in
    subst P (sym is) (to_end row rest others)

with_rows : (hook : Hook) (table : PlainTable) (row : Row) (tables : List PlainTable) → rows_of_table hook table ≡ row ∷ [] → Each (IsOfOther row.mask_serial) (rows_of hook tables) →
    SameRows (rows_of hook (with_table table tables)) (rows_of hook tables ++ (row ∷ []))
unfolding rows_of
with_rows hook table row [] is others =
    let P : List Row → Type 0 = λ rows. SameRows (rows ++ []) (row ∷ []) in
    subst P (sym is) (same_refl (row ∷ []))
with_rows hook table row (t ∷ tables) is others =
    with_step (comes_before t table) hook table t row tables is others
    (with_rows hook table row tables is (each_back (IsOfOther row.mask_serial) (rows_of_table hook t) (rows_of hook tables) others))

pub table_put_rows : (both : BothHooks) (hook : Hook) (serial : ℕ) (words : List ℕ) (table : PlainTable) (f : Filter) →
    BothWhole both → Each (λ (row : Row). row.mask_serial < serial) (all_rows both) → table.masks ≡ new_mask serial words f ∷ [] →
    SameRows (all_rows (on_hook hook (with_table table) both)) (all_rows both ++ (row_of hook table (new_mask serial words f) f ∷ []))
table_put_rows both hook serial words table f whole below is =
    let row : Row = row_of hook table (new_mask serial words f) f in
    let ahead : List Row = rows_ahead hook both in
    let rows : List Row = rows_of hook (tables_on hook both) in
    let behind : List Row = rows_after hook both in
    let others : Each (IsOfOther serial) (rows ++ behind) =
    each_weaker (IsBelow serial) (IsOfOther serial) (below_other serial) (rows ++ behind)
    (each_back (IsBelow serial) ahead (rows ++ behind) (subst (Each (IsBelow serial)) (hook_rows hook both) below)) in
    let P : List Row → Type 0 = λ all. SameRows all (all_rows both ++ (row ∷ [])) in
    let Q : List Row → Type 0 = λ all. SameRows (ahead ++ (rows_of hook (with_table table (tables_on hook both)) ++ behind)) (all ++ (row ∷ [])) in
    subst P (sym (hook_changed hook both (with_table table)))
    (subst Q (sym (hook_rows hook both))
    (joined
    (append_same ahead
    (same_append behind (with_rows hook table row (tables_on hook both) (ap (flat_map (rows_of_mask hook table)) is) (each_front (IsOfOther serial) rows behind others))))
    (put_past ahead rows row behind (each_back (IsOfOther serial) rows behind others))))

-- ---- the tables stay whole
each_step : (P : PlainTable → Type 0) (b : Bool) (table t : PlainTable) (tables : List PlainTable) → P table → P t → Each P tables → Each P (with_table table tables) →
    Each P (cond b (t ∷ with_table table tables) (table ∷ (t ∷ tables)))
each_step P true table t tables new one all later = (one, later)
each_step P false table t tables new one all later = (new, (one, all))

with_each : (P : PlainTable → Type 0) (table : PlainTable) (tables : List PlainTable) → P table → Each P tables → Each P (with_table table tables)
with_each P table [] new all = (new, tt)
with_each P table (t ∷ tables) new all = each_step P (comes_before t table) table t tables new all.0 all.1 (with_each P table tables new all.1)

or_false : (b c : Bool) → (b || c) ≡ false → (b ≡ false) × (c ≡ false)
or_false true c is = absurd (false≢true (sym is))
or_false false c is = (refl, is)

one_comes_first : (c p d q : ℕ) → (nat_lt d c || (d == c && nat_lt q p)) ≡ false → (d == c && q == p) ≡ false → (nat_lt c d || (c == d && nat_lt p q)) ≡ true
one_comes_first c p d q later differ = grind (arith, nat_tests)

comes_through : (a b c d e f : ℕ) → (nat_lt a c || (a == c && nat_lt b d)) ≡ true → (nat_lt c e || (c == e && nat_lt d f)) ≡ true → (nat_lt a e || (a == e && nat_lt b f)) ≡ true
comes_through a b c d e f first second = grind (arith, nat_tests)

rising_step : (b : Bool) (table t : PlainTable) (tables : List PlainTable) → comes_before t table ≡ b → is_table table.chain table.pref t ≡ false →
    Each (IsEarlier t) tables → EachPair IsEarlier tables → EachPair IsEarlier (with_table table tables) →
    EachPair IsEarlier (cond b (t ∷ with_table table tables) (table ∷ (t ∷ tables)))
rising_step true table t tables is differ one pairs later = (with_each (IsEarlier t) table tables is one, later)
rising_step false table t tables is differ one pairs later =
    let first : IsEarlier table t = one_comes_first table.chain table.pref t.chain t.pref is differ in
    ((first, each_weaker (IsEarlier t) (IsEarlier table) (λ u next. comes_through table.chain table.pref t.chain t.pref u.chain u.pref first next) tables one), (one, pairs))

with_rising : (table : PlainTable) (tables : List PlainTable) → list_any (is_table table.chain table.pref) tables ≡ false → EachPair IsEarlier tables →
    EachPair IsEarlier (with_table table tables)
with_rising table [] none pairs = (tt, tt)
with_rising table (t ∷ tables) none pairs =
    let parts = or_false (is_table table.chain table.pref t) (list_any (is_table table.chain table.pref) tables) none in
    rising_step (comes_before t table) table t tables refl parts.0 pairs.0 pairs.1 (with_rising table tables parts.1 pairs.1)

pub table_put_whole : (both : BothHooks) (hook : Hook) (serial : ℕ) (words : List ℕ) (table : PlainTable) (f : Filter) →
    BothWhole both → table.masks ≡ new_mask serial words f ∷ [] → list_any (is_table table.chain table.pref) (tables_on hook both) ≡ false →
    BothWhole (on_hook hook (with_table table) both)
table_put_whole both hook serial words table f whole is none =
    let full : IsFull table = record { some = subst HasSome (sym is) tt; each = subst (Each HasFilters) (sym is) (tt, tt); rising = subst (EachPair IsLower) (sym is) (tt, tt) } in
    whole_changed hook both (with_table table)
    (λ all. record { full = with_each IsFull table (tables_on hook both) full all.full; rising = with_rising table (tables_on hook both) none all.rising })
    whole
