-- The lists hold the rows in the order in which they are shown, and rows in another order of their masks are
-- shown alike.
use Rattle.std.proofs.Common.{◌≡◌, ◌∙◌, ℕ, ◌<◌, Bool, true, false, List, [], ◌∷◌, ◌++◌, refl, sym, ap, arith}
use Rattle.std.specs.Prelude.{map, nat_lt}
use Rattle.std.specs.List.{flat_map}
use Rattle.std.proofs.lemmas.Bool.Decides.{nat_tests}
use Rattle.tc_base.specs.declared.hook.Hook.{Hook}
use Rattle.tc_base.specs.declared.hook.Hook.TheVariants as hooks
use Rattle.filter_state.specs.States.{Row}
use Rattle.filter_state.specs.Order.{SameRows, none, keep, exchange, joined}
use Rattle.filter_state.specs.Sound.{Each, EachPair}
use Rattle.filter_index.specs.declared.filter.Filter.{Filter}
use Rattle.filter_tables.specs.Plain.{PlainMask, PlainTable}
use Rattle.filter_tables.specs.Changes.{comes_before}
use Rattle.filter_tables.specs.Whole.{IsFull, AreWhole}
use Rattle.filter_tables.specs.Rows.{row_of, rows_of_mask, rows_of_table, rows_of, BothHooks, all_rows, BothWhole}
use Rattle.filter_state.proofs.Pairs.{each_weaker, each_append}
use Rattle.row_laws.specs.OfOrder.Sorted.{placed, sorted, InOrder}
use Rattle.row_laws.specs.OfOrder.Rows.{row_before}
use Rattle.row_laws.proofs.OfOrder.Sorting.{placed_turn, sorted_stays}
use Rattle.row_laws.proofs.OfOrder.Orders.{row_order, row_either, place_before, one_place, later_mask, later_table}

-- ---- rows in another order
exchanged : (x y : Row) (zs : List Row) → (b : Bool) → row_before x y ≡ b → (x.mask_serial ≡ y.mask_serial → ⊥) →
    placed row_before x (placed row_before y zs) ≡ placed row_before y (placed row_before x zs)
exchanged x y zs true xy differ = placed_turn row_before row_order x y xy zs
exchanged x y zs false xy differ = sym (placed_turn row_before row_order y x (row_either x y differ xy) zs)

pub sorted_same : {xs ys : List Row} → SameRows xs ys → sorted row_before xs ≡ sorted row_before ys
sorted_same none = refl
sorted_same (keep {x = x} s) = ap (placed row_before x) (sorted_same s)
sorted_same (exchange {x = x} {y = y} {xs = xs} differ) = exchanged x y (sorted row_before xs) (row_before x y) refl differ
sorted_same (joined s t) = sorted_same s ∙ sorted_same t

-- ---- pairs of lists that are put together
pairs_joined : {X : Type 0} (R : X → X → Type 0) (xs ys : List X) → EachPair R xs → EachPair R ys → Each (λ x. Each (R x) ys) xs → EachPair R (xs ++ ys)
pairs_joined R [] ys pairs more across = more
pairs_joined R (x ∷ xs) ys pairs more across = (each_append (R x) xs ys pairs.0 across.0, pairs_joined R xs ys pairs.1 more across.1)

each_flat : {A X : Type 0} (S : A → Type 0) (Q : X → Type 0) (f : A → List X) → ((a : A) → S a → Each Q (f a)) → (xs : List A) → Each S xs → Each Q (flat_map f xs)
each_flat S Q f part [] all = tt
each_flat S Q f part (a ∷ xs) all = each_append Q (f a) (flat_map f xs) (part a all.0) (each_flat S Q f part xs all.1)

-- each part is in order, and what is in an earlier part stands before what is in a later one
pairs_flat : {A X : Type 0} (R : X → X → Type 0) (P : A → Type 0) (S : A → A → Type 0) (In : A → X → Type 0) (f : A → List X) →
    ((a : A) → Each (In a) (f a)) → ((a : A) → P a → EachPair R (f a)) → ((a b : A) (x y : X) → S a b → In a x → In b y → R x y) →
    (xs : List A) → Each P xs → EachPair S xs → EachPair R (flat_map f xs)
pairs_flat R P S In f within inner across [] all pairs = tt
pairs_flat R P S In f within inner across (a ∷ xs) all pairs =
    pairs_joined R (f a) (flat_map f xs) (inner a all.0) (pairs_flat R P S In f within inner across xs all.1 pairs.1)
    (each_weaker (In a) (λ x. Each (R x) (flat_map f xs)) (λ x here. each_flat (S a) (R x) f (λ b later. each_weaker (In b) (R x) (λ y there. across a b x y later here there) (f b) (within b)) xs pairs.0) (f a) (within a))

-- ---- where a row stands
record StandsAt (hook : Hook) (chain pref mask_serial : ℕ) (row : Row) : Type 0 where
  pub hook_is : row.hook ≡ hook
  pub chain_is : row.chain ≡ chain
  pub pref_is : row.pref ≡ pref
  pub mask_is : row.mask_serial ≡ mask_serial

abbrev IsBehind : Row → Row → Type 0
IsBehind x y = row_before y x ≡ false

behind_at : (h k : Hook) (c p m d q n : ℕ) (x y : Row) → StandsAt h c p m x → StandsAt k d q n y → place_before k d q n h c p m ≡ false → IsBehind x y
behind_at h k c p m d q n x y at there e =
    ap (λ g. place_before g y.chain y.pref y.mask_serial x.hook x.chain x.pref x.mask_serial) there.hook_is
    ∙ ap (λ g. place_before k y.chain y.pref y.mask_serial g x.chain x.pref x.mask_serial) at.hook_is
    ∙ ap (λ g. place_before k g y.pref y.mask_serial h x.chain x.pref x.mask_serial) there.chain_is
    ∙ ap (λ g. place_before k d y.pref y.mask_serial h g x.pref x.mask_serial) at.chain_is
    ∙ ap (λ g. place_before k d g y.mask_serial h c x.pref x.mask_serial) there.pref_is
    ∙ ap (λ g. place_before k d q y.mask_serial h c g x.mask_serial) at.pref_is
    ∙ ap (λ g. place_before k d q g h c p x.mask_serial) there.mask_is
    ∙ ap (λ g. place_before k d q n h c p g) at.mask_is
    ∙ e

-- ---- rows of one mask
mask_within : (hook : Hook) (t : PlainTable) (m : PlainMask) (filters : List Filter) → Each (StandsAt hook t.chain t.pref m.serial) (map (row_of hook t m) filters)
mask_within hook t m [] = tt
mask_within hook t m (f ∷ filters) = (record { hook_is = refl; chain_is = refl; pref_is = refl; mask_is = refl }, mask_within hook t m filters)

level : (h : Hook) (c p m : ℕ) (xs : List Row) → Each (StandsAt h c p m) xs → EachPair IsBehind xs
level h c p m [] all = tt
level h c p m (x ∷ xs) all =
    (each_weaker (StandsAt h c p m) (IsBehind x) (λ y there. behind_at h h c p m c p m x y all.0 there (one_place h c p m)) xs all.1, level h c p m xs all.1)

-- ---- rows of one table
abbrev RisingMasks : PlainMask → PlainMask → Type 0
RisingMasks m n = m.serial < n.serial

any_mask : (masks : List PlainMask) → Each (λ (m : PlainMask). Unit {0}) masks
any_mask [] = tt
any_mask (m ∷ masks) = (tt, any_mask masks)

less_true : (m n : ℕ) → m < n → nat_lt m n ≡ true
less_true m n less = grind (arith, nat_tests, less)

table_pairs : (hook : Hook) (t : PlainTable) → IsFull t → EachPair IsBehind (rows_of_table hook t)
table_pairs hook t full =
    pairs_flat IsBehind (λ m. Unit {0}) RisingMasks (λ m. StandsAt hook t.chain t.pref m.serial) (rows_of_mask hook t)
    (λ m. mask_within hook t m m.filters)
    (λ m any. level hook t.chain t.pref m.serial (rows_of_mask hook t m) (mask_within hook t m m.filters))
    (λ m n x y less here there. behind_at hook hook t.chain t.pref m.serial t.chain t.pref n.serial x y here there (later_mask hook t.chain t.pref m.serial n.serial (less_true m.serial n.serial less)))
    t.masks (any_mask t.masks) full.rising

-- ---- rows of one hook
record StandsIn (hook : Hook) (t : PlainTable) (row : Row) : Type 0 where
  pub serial : ℕ
  pub at : StandsAt hook t.chain t.pref serial row

table_within : (hook : Hook) (t : PlainTable) → Each (StandsIn hook t) (rows_of_table hook t)
table_within hook t =
    each_flat (λ (m : PlainMask). Unit {0}) (StandsIn hook t) (rows_of_mask hook t)
    (λ m any. each_weaker (StandsAt hook t.chain t.pref m.serial) (StandsIn hook t) (λ x at. record { serial = m.serial; at = at }) (rows_of_mask hook t m) (mask_within hook t m m.filters))
    t.masks (any_mask t.masks)

hook_pairs : (hook : Hook) (tables : List PlainTable) → AreWhole tables → EachPair IsBehind (rows_of hook tables)
unfolding rows_of
hook_pairs hook tables whole =
    pairs_flat IsBehind IsFull (λ t u. comes_before t u ≡ true) (StandsIn hook) (rows_of_table hook) (table_within hook) (table_pairs hook)
    (λ t u x y less here there. behind_at hook hook t.chain t.pref here.serial u.chain u.pref there.serial x y here.at there.at (later_table hook t.chain t.pref here.serial u.chain u.pref there.serial less))
    tables whole.full whole.rising

abbrev IsOn : Hook → Row → Type 0
IsOn hook row = row.hook ≡ hook

hook_within : (hook : Hook) (tables : List PlainTable) → Each (IsOn hook) (rows_of hook tables)
unfolding rows_of
hook_within hook tables =
    each_flat (λ (t : PlainTable). Unit {0}) (IsOn hook) (rows_of_table hook)
    (λ t any. each_weaker (StandsIn hook t) (IsOn hook) (λ x stands. let at = stands.at in at.hook_is) (rows_of_table hook t) (table_within hook t))
    tables (any_table tables)
  where
    any_table : (ts : List PlainTable) → Each (λ (t : PlainTable). Unit {0}) ts
    any_table [] = tt
    any_table (t ∷ ts) = (tt, any_table ts)

-- ---- rows of both hooks
hooks_apart : (x y : Row) → IsOn hooks.Ingress x → IsOn hooks.Egress y → IsBehind x y
hooks_apart x y here there =
    ap (λ g. place_before g y.chain y.pref y.mask_serial x.hook x.chain x.pref x.mask_serial) there
    ∙ ap (λ g. place_before hooks.Egress y.chain y.pref y.mask_serial g x.chain x.pref x.mask_serial) here

rows_in_order : (both : BothHooks) → BothWhole both → InOrder row_before (all_rows both)
rows_in_order both whole =
    pairs_joined IsBehind (rows_of hooks.Ingress both.ingress) (rows_of hooks.Egress both.egress) (hook_pairs hooks.Ingress both.ingress whole.ingress) (hook_pairs hooks.Egress both.egress whole.egress)
    (each_weaker (IsOn hooks.Ingress) (λ x. Each (IsBehind x) (rows_of hooks.Egress both.egress))
    (λ x here. each_weaker (IsOn hooks.Egress) (IsBehind x) (λ y there. hooks_apart x y here there) (rows_of hooks.Egress both.egress) (hook_within hooks.Egress both.egress))
    (rows_of hooks.Ingress both.ingress) (hook_within hooks.Ingress both.ingress))

pub rows_stay : (both : BothHooks) → BothWhole both → sorted row_before (all_rows both) ≡ all_rows both
rows_stay both whole = sorted_stays row_before (all_rows both) (rows_in_order both whole)
