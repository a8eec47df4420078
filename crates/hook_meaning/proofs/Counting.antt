-- A hook of a sound state has as many tables as its rows, and so 256 at most.
use Rattle.std.proofs.Common.{◌≡◌, ℕ, suc, ◌≤◌, ◌==◌, Bool, true, false, List, [], ◌∷◌, length, refl, ap, sym, ◌∙◌, subst, arith, eq-eqb}
use Rattle.std.specs.Prelude.{filter, nat_lt, if◌then◌else◌}
use Rattle.std.proofs.lemmas.Bool.{false≢true, ne_eqb}
use Rattle.std.proofs.lemmas.Bool.Decides.{nat_tests}
use Rattle.tc_base.specs.declared.hook.Hook.{Hook}
use Rattle.tc_base.specs.declared.hook.Hook.TheVariants as hooks
use Rattle.filter_state.specs.States.{Row, State}
use Rattle.filter_state.specs.Order.{SameRows, none, keep, exchange, joined}
use Rattle.filter_state.specs.Sound.{Each, EachPair, GoTogether, Sound}
use Rattle.filter_state.specs.Tables.{in_hook, tables_of, distinct}
use Rattle.state_laws.proofs.Counts.{is_among, tables_are}
use Rattle.filter_state.proofs.Pairs.{each_weaker, each_both, each_passing, pairs_filter, any_none, any_map}
use Rattle.state_laws.proofs.Tests.{hook_eq_true}
use Rattle.state_laws.proofs.OfOrder.Same.{same_refl, filter_same}
use Rattle.state_laws.proofs.OfOrder.First.{each_same}
use Rattle.state_laws.proofs.OfOrder.Soundness.{sound_same}
use Rattle.row_laws.specs.OfOrder.Sorted.{placed, sorted, InOrder}
use Rattle.row_laws.specs.OfOrder.Rows.{row_before}
use Rattle.row_laws.proofs.OfOrder.Sorting.{sorted_stays, sorted_in_order}
use Rattle.row_laws.proofs.OfOrder.Orders.{by_number, place_before, one_place, row_order}
use Rattle.row_laws.proofs.OfOrder.OrderedRows.{sorted_same}
use Rattle.walk_rules.specs.Questions.{Head}
use Rattle.walk_rules.specs.Heads.{head_with, in_front, with_row, heads_in, heads_on}

-- ---- rows that go together keep the order of each mask where they are sorted
masks_apart : (x y : Row) → GoTogether x y → row_before y x ≡ true → x.mask_serial ≡ y.mask_serial → ⊥
masks_apart x y go before same = let t = go.same_table (go.same_mask same).0 in
    let level : row_before y x ≡ false = ap (λ g. place_before g y.chain y.pref y.mask_serial x.hook x.chain x.pref x.mask_serial) (sym t.0)
    ∙ ap (λ g. place_before x.hook g y.pref y.mask_serial x.hook x.chain x.pref x.mask_serial) (sym t.1)
    ∙ ap (λ g. place_before x.hook x.chain g y.mask_serial x.hook x.chain x.pref x.mask_serial) (sym t.2)
    ∙ ap (λ g. place_before x.hook x.chain x.pref g x.hook x.chain x.pref x.mask_serial) (sym same)
    ∙ one_place x.hook x.chain x.pref x.mask_serial in
    false≢true (sym level ∙ before)

placed_at : (x y : Row) (ys : List Row) → GoTogether x y → SameRows (x ∷ ys) (placed row_before x ys) → (b : Bool) → row_before y x ≡ b
    → SameRows (x ∷ y ∷ ys) (if b then y ∷ placed row_before x ys else x ∷ (y ∷ ys))
placed_at x y ys go rest true before = joined (exchange (masks_apart x y go before)) (keep rest)
placed_at x y ys go rest false before = same_refl (x ∷ y ∷ ys)

placed_rows : (x : Row) (ys : List Row) → Each (GoTogether x) ys → SameRows (x ∷ ys) (placed row_before x ys)
placed_rows x [] all = same_refl (x ∷ [])
placed_rows x (y ∷ ys) all = placed_at x y ys all.0 (placed_rows x ys all.1) (row_before y x) refl

sorted_rows : (xs : List Row) → EachPair GoTogether xs → SameRows xs (sorted row_before xs)
sorted_rows [] pairs = none
sorted_rows (x ∷ xs) pairs = let rest = sorted_rows xs pairs.1 in joined (keep rest) (placed_rows x (sorted row_before xs) (each_same (GoTogether x) rest pairs.0))

-- ---- of rows in order, those of one table are neighbours
number_back : (a b : ℕ) (next : Bool) → by_number a b next ≡ false → b ≤ a
number_back a b next e = grind (arith, nat_tests, e)

number_next : (a b : ℕ) (next : Bool) → a ≡ b → by_number a b next ≡ false → next ≡ false
number_next a b true same e = absurd (grind (arith, nat_tests, same, e))
number_next a b false same e = refl

abbrev in_chains : Row → Row → Bool
in_chains a b = by_number a.chain b.chain (by_number a.pref b.pref (nat_lt a.mask_serial b.mask_serial))

on_one_hook : (h : Hook) (a b : Row) → a.hook ≡ h → b.hook ≡ h → row_before a b ≡ false → in_chains a b ≡ false
on_one_hook h a b at there e = by h (sym (ap (λ g. place_before g a.chain a.pref a.mask_serial h b.chain b.pref b.mask_serial) at) ∙ (sym (ap (λ g. place_before a.hook a.chain a.pref a.mask_serial g b.chain b.pref b.mask_serial) there) ∙ e))
  where
    by : (g : Hook) → place_before g a.chain a.pref a.mask_serial g b.chain b.pref b.mask_serial ≡ false → in_chains a b ≡ false
    by hooks.Ingress f = f
    by hooks.Egress f = f

other_table : (h : Hook) (x y z : Row) → x.hook ≡ h → y.hook ≡ h → z.hook ≡ h → GoTogether x y → GoTogether x z → row_before y x ≡ false → row_before z y ≡ false
    → (y.table ≡ x.table → ⊥) → z.table ≡ x.table → ⊥
other_table h x y z at next there one two first second differ same =
    let t = two.same_table (sym same) in
    let xy = on_one_hook h y x next at first in let yz = on_one_hook h z y there next second in
    let low = number_back y.chain x.chain (by_number y.pref x.pref (nat_lt y.mask_serial x.mask_serial)) xy in
    let high = number_back z.chain y.chain (by_number z.pref y.pref (nat_lt z.mask_serial y.mask_serial)) yz in
    let chains = t.1 in let prefs = t.2 in
    let chain : x.chain ≡ y.chain = omega arith in let last : z.chain ≡ y.chain = omega arith in
    let low_pref = number_back y.pref x.pref (nat_lt y.mask_serial x.mask_serial) (number_next y.chain x.chain _ (sym chain) xy) in
    let high_pref = number_back z.pref y.pref (nat_lt z.mask_serial y.mask_serial) (number_next z.chain y.chain _ last yz) in
    let pref : x.pref ≡ y.pref = omega arith in
    differ (sym (one.one_table (at ∙ sym next) chain pref))

-- ---- the tables of such rows are their numbers, each once
record StartsWith (serial : ℕ) (heads : List Head) : Type 0 where
  pub head : Head
  pub more : List Head
  pub are : heads ≡ head ∷ more
  pub is : head.serial ≡ serial

starts : (y : Row) (heads : List Head) → StartsWith y.table (with_row y heads)
starts y [] = record { head = head_with y (y.mask_serial ∷ []); more = []; are = refl; is = refl }
starts y (h ∷ hs) = at (h.serial == y.table)
  where
    at : (b : Bool) → StartsWith y.table (if b then head_with y (in_front y.mask_serial h.masks) ∷ hs else head_with y (y.mask_serial ∷ []) ∷ h ∷ hs)
    at true = record { head = head_with y (in_front y.mask_serial h.masks); more = hs; are = refl; is = refl }
    at false = record { head = head_with y (y.mask_serial ∷ []); more = h ∷ hs; are = refl; is = refl }

one_more : (x : Row) (head : Head) (heads : List Head) (ns : List ℕ) → suc (length heads) ≤ length (distinct ns) → ((head.serial ≡ x.table → ⊥) → is_among x.table ns ≡ false)
    → length (with_row x (head ∷ heads)) ≤ length (distinct (x.table ∷ ns))
one_more x head heads ns few apart = at (head.serial == x.table) (is_among x.table ns) refl refl
  where
    at : (b c : Bool) → (head.serial == x.table) ≡ b → is_among x.table ns ≡ c
        → length (if b then head_with x (in_front x.mask_serial head.masks) ∷ heads else head_with x (x.mask_serial ∷ []) ∷ head ∷ heads) ≤ length (if c then distinct ns else x.table ∷ distinct ns)
    at true true e f = few
    at true false e f = omega (arith, few)
    at false false e f = omega (arith, few)
    at false true e f = absurd (false≢true (sym (apart (λ same. false≢true (sym e ∙ eq-eqb head.serial x.table same))) ∙ f))

none_among : (n : ℕ) (rows : List Row) → Each (λ (z : Row). z.table ≡ n → ⊥) rows → is_among n (tables_of rows) ≡ false
none_among n rows all = ap (is_among n) (tables_are rows) ∙ (any_map (λ m. m == n) (λ (z : Row). z.table) rows
    ∙ any_none (λ (z : Row). z.table == n) rows (each_weaker (λ (z : Row). z.table ≡ n → ⊥) (λ (z : Row). (z.table == n) ≡ false) (λ z differ. ne_eqb z.table n differ) rows all))

others : (h : Hook) (x y : Row) (rows : List Row) → Each (λ (z : Row). z.hook ≡ h) (x ∷ y ∷ rows) → EachPair GoTogether (x ∷ y ∷ rows) → InOrder row_before (x ∷ y ∷ rows)
    → (y.table ≡ x.table → ⊥) → Each (λ (z : Row). z.table ≡ x.table → ⊥) (y ∷ rows)
others h x y rows hook pairs order differ = (
  differ,
  each_both (λ z. (z.hook ≡ h) × GoTogether x z) (λ z. row_before z y ≡ false) (λ z. z.table ≡ x.table → ⊥)
      (λ z both behind. other_table h x y z hook.0 hook.1.0 both.0 pairs.0.0 both.1 order.0.0 behind differ) rows
      (each_both (λ z. z.hook ≡ h) (GoTogether x) (λ z. (z.hook ≡ h) × GoTogether x z) (λ z a b. (a, b)) rows hook.1.1 pairs.0.1) order.1.0,
)

heads_few : (h : Hook) (rows : List Row) → Each (λ (z : Row). z.hook ≡ h) rows → EachPair GoTogether rows → InOrder row_before rows → length (heads_in rows) ≤ length (distinct (tables_of rows))
heads_few h [] hook pairs order = omega arith
heads_few h (x ∷ []) hook pairs order = omega arith
heads_few h (x ∷ y ∷ rows) hook pairs order =
    let few = heads_few h (y ∷ rows) hook.1 pairs.1 order.1 in let start = starts y (heads_in rows) in
    subst (λ z. length (with_row x z) ≤ length (distinct (x.table ∷ tables_of (y ∷ rows)))) (sym start.are)
    (one_more x start.head start.more (tables_of (y ∷ rows)) (subst (λ z. length z ≤ length (distinct (tables_of (y ∷ rows)))) start.are few)
    (λ differ. none_among x.table (y ∷ rows) (others h x y rows hook pairs order (λ same. differ (start.is ∙ same)))))

-- ---- a sound state
pub few_heads : (hook : Hook) (s : State) → Sound s → length (heads_on hook s) ≤ 256
few_heads hook s sound =
    let rows = sorted row_before s.rows in let same = sorted_rows s.rows sound.together in
    let t : State = record s { rows = rows } in
    let after : Sound t = sound_same s t (record { hooked = refl; rows = same; actions = refl; tables_made = refl; masks_made = refl; actions_made = refl }) sound in
    let there = filter (in_hook hook) rows in
    let order = pairs_filter (λ a b. row_before b a ≡ false) (in_hook hook) rows (sorted_in_order row_before row_order s.rows) in
    let few = heads_few hook there (each_weaker (λ z. in_hook hook z ≡ true) (λ z. z.hook ≡ hook) (λ z e. hook_eq_true z.hook hook e) there (each_passing (in_hook hook) rows)) (pairs_filter GoTogether (in_hook hook) rows after.together) order in
    let most = after.tables hook in
    let is = sorted_same (filter_same (in_hook hook) same) ∙ sorted_stays row_before there order in
    subst (λ z. length (heads_in z) ≤ 256) (sym is) (omega (arith, few, most))
