-- The tables of sorted rows: what counts of a row, and that it doesn't matter where among the rows it was
-- accepted, or how often.
use Rattle.std.proofs.Common.{◌≡◌, ℕ, ◌==◌, Bool, true, false, cond, ◌||◌, List, [], ◌∷◌, ◌++◌, map, refl, sym, ◌∙◌, ap, subst, eqb-true, eq-eqb}
use Rattle.std.specs.List.{list_any}
use Rattle.std.proofs.lemmas.Bool.{false≢true, eqb-false}
use Rattle.filter_state.specs.States.{Row}
use Rattle.filter_state.specs.Order.{of_mask, exchange}
use Rattle.filter_state.specs.Sound.{Each}
use Rattle.state_laws.proofs.OfOrder.Same.{or_swap}
use Rattle.row_laws.specs.OfOrder.Sorted.{placed, sorted, InOrder}
use Rattle.row_laws.specs.OfOrder.Rows.{row_before}
use Rattle.row_laws.proofs.OfOrder.Sorting.{sorted_mapped, sorted_in_order}
use Rattle.row_laws.proofs.OfOrder.Orders.{row_order, row_either}
use Rattle.row_laws.proofs.OfOrder.OrderedRows.{sorted_same}
use Rattle.walk_rules.specs.Questions.{Head}
use Rattle.walk_rules.specs.Heads.{head_with, in_front, with_row, heads_in}
use Rattle.walk_rules.proofs.Listed.{any_has, each_both, sorted_have}

-- ---- a row as a table shows it: apart from its words, handle, key and actions
abbrev pub bare : Row → Row
bare row = record row { mask = []; handle = 0; key = []; actions = [] }

with_bare : (row : Row) (heads : List Head) → with_row (bare row) heads ≡ with_row row heads
with_bare row [] = refl
with_bare row (head ∷ heads) = refl

heads_bare : (rows : List Row) → heads_in (map bare rows) ≡ heads_in rows
heads_bare [] = refl
heads_bare (row ∷ rows) = ap (with_row (bare row)) (heads_bare rows) ∙ with_bare row (heads_in rows)

-- the tables of rows, in whatever order they come
abbrev pub tables_of : List Row → List Head
tables_of rows = heads_in (sorted row_before rows)

pub tables_bare : (rows : List Row) → tables_of rows ≡ tables_of (map bare rows)
tables_bare rows = sym (heads_bare (sorted row_before rows)) ∙ ap heads_in (sorted_mapped bare row_before rows)

-- ---- rows of which those of one mask are equal may come in any order
abbrev pub AreOne : Row → Row → Type 0
AreOne x y = x.mask_serial ≡ y.mask_serial → x ≡ y

exchanged : (x y : Row) (rows : List Row) (b : Bool) → (x.mask_serial == y.mask_serial) ≡ b → AreOne x y → sorted row_before (x ∷ y ∷ rows) ≡ sorted row_before (y ∷ x ∷ rows)
exchanged x y rows true is one = subst (λ z. sorted row_before (x ∷ z ∷ rows) ≡ sorted row_before (z ∷ x ∷ rows)) (one (eqb-true x.mask_serial y.mask_serial is)) refl
exchanged x y rows false is one = sorted_same (exchange {x = x} {y = y} {xs = rows} (eqb-false x.mask_serial y.mask_serial is))

pub in_turn : (x y : Row) (rows : List Row) → AreOne x y → sorted row_before (x ∷ y ∷ rows) ≡ sorted row_before (y ∷ x ∷ rows)
in_turn x y rows one = exchanged x y rows (x.mask_serial == y.mask_serial) refl one

pub last_first : (x : Row) (rows : List Row) → Each (AreOne x) rows → sorted row_before (rows ++ x ∷ []) ≡ sorted row_before (x ∷ rows)
last_first x [] all = refl
last_first x (y ∷ rows) all = ap (placed row_before y) (last_first x rows all.1) ∙ sym (in_turn x y rows all.0)

-- ---- whether any passes
any_placed : (test : Row → Bool) (x : Row) (ys : List Row) → list_any test (placed row_before x ys) ≡ (test x || list_any test ys)
any_placed test x [] = refl
any_placed test x (y ∷ ys) = step (row_before y x) (any_placed test x ys)
  where
    step : (b : Bool) → list_any test (placed row_before x ys) ≡ (test x || list_any test ys) →
        list_any test (cond b (y ∷ placed row_before x ys) (x ∷ y ∷ ys)) ≡ (test x || (test y || list_any test ys))
    step true e = ap (λ any. test y || any) e ∙ or_swap (test y) (test x) (list_any test ys)
    step false e = refl

any_sorted : (test : Row → Bool) (rows : List Row) → list_any test (sorted row_before rows) ≡ list_any test rows
any_sorted test [] = refl
any_sorted test (x ∷ rows) = any_placed test x (sorted row_before rows) ∙ ap (λ any. test x || any) (any_sorted test rows)

-- ---- a row twice shows nothing more
front_step : (mask first : ℕ) (masks : List ℕ) (b : Bool) → (first == mask) ≡ b → in_front mask (cond b (first ∷ masks) (mask ∷ first ∷ masks)) ≡ cond b (first ∷ masks) (mask ∷ first ∷ masks)
front_step mask first masks true is = ap (λ c. cond c (first ∷ masks) (mask ∷ first ∷ masks)) is
front_step mask first masks false is = ap (λ c. cond c (mask ∷ first ∷ masks) (mask ∷ mask ∷ first ∷ masks)) (eq-eqb mask mask refl)

front_twice : (mask : ℕ) (masks : List ℕ) → in_front mask (in_front mask masks) ≡ in_front mask masks
front_twice mask [] = ap (λ c. cond c (mask ∷ []) (mask ∷ mask ∷ [])) (eq-eqb mask mask refl)
front_twice mask (first ∷ masks) = front_step mask first masks (first == mask) refl

own_table : (row : Row) (masks : List ℕ) (heads : List Head) → with_row row (head_with row masks ∷ heads) ≡ head_with row (in_front row.mask_serial masks) ∷ heads
own_table row masks heads =
    ap (λ b. cond b (head_with row (in_front row.mask_serial masks) ∷ heads) (head_with row (row.mask_serial ∷ []) ∷ head_with row masks ∷ heads)) (eq-eqb row.table row.table refl)

with_twice : (row : Row) (heads : List Head) → with_row row (with_row row heads) ≡ with_row row heads
with_twice row [] = own_table row (row.mask_serial ∷ []) [] ∙ ap (λ masks. head_with row masks ∷ []) (front_twice row.mask_serial [])
with_twice row (head ∷ heads) = step (head.serial == row.table)
  where
    step : (b : Bool) → with_row row (cond b (head_with row (in_front row.mask_serial head.masks) ∷ heads) (head_with row (row.mask_serial ∷ []) ∷ head ∷ heads))
        ≡ cond b (head_with row (in_front row.mask_serial head.masks) ∷ heads) (head_with row (row.mask_serial ∷ []) ∷ head ∷ heads)
    step true = own_table row (in_front row.mask_serial head.masks) heads ∙ ap (λ masks. head_with row masks ∷ heads) (front_twice row.mask_serial head.masks)
    step false = own_table row (row.mask_serial ∷ []) (head ∷ heads) ∙ ap (λ masks. head_with row masks ∷ head ∷ heads) (front_twice row.mask_serial [])

-- ---- a row more of a mask that is there
-- the row isn't before the first one that isn't before it, since its like stands behind that one
not_behind : (x y : Row) (rows : List Row) → (y.mask_serial == x.mask_serial) ≡ false → row_before y x ≡ false → Each (AreOne x) rows → Each (λ z. row_before z y ≡ false) rows →
    list_any (of_mask x.mask_serial) rows ≡ true → ⊥
not_behind x y rows other is all order some =
    let one = any_has (λ z. AreOne x z × (row_before z y ≡ false)) (of_mask x.mask_serial) rows (each_both (AreOne x) (λ z. row_before z y ≡ false) rows all order) some in
    let same : x ≡ one.0 = one.2.0 (sym (eqb-true one.0.mask_serial x.mask_serial one.1)) in
    let behind : row_before x y ≡ false = subst (λ z. row_before z y ≡ false) (sym same) one.2.1 in
    false≢true (sym is ∙ row_either x y (λ e. eqb-false y.mask_serial x.mask_serial other (sym e)) behind)

again_at : (x y : Row) (rows : List Row) (b c : Bool) → row_before y x ≡ b → (y.mask_serial == x.mask_serial) ≡ c → AreOne x y → Each (AreOne x) rows → Each (λ z. row_before z y ≡ false) rows →
    (c || list_any (of_mask x.mask_serial) rows) ≡ true → (list_any (of_mask x.mask_serial) rows ≡ true → heads_in (placed row_before x rows) ≡ heads_in rows) →
    heads_in (cond b (y ∷ placed row_before x rows) (x ∷ y ∷ rows)) ≡ heads_in (y ∷ rows)
again_at x y rows true true is at one all order some more =
    let same : x ≡ y = one (sym (eqb-true y.mask_serial x.mask_serial at)) in
    let self : row_before x x ≡ true = subst (λ z. row_before z x ≡ true) (sym same) is in
    absurd (false≢true (sym (row_order.one_way x x self) ∙ self))
again_at x y rows true false is at one all order some more = ap (with_row y) (more some)
again_at x y rows false true is at one all order some more =
    subst (λ z. with_row x (with_row z (heads_in rows)) ≡ with_row z (heads_in rows)) (one (sym (eqb-true y.mask_serial x.mask_serial at))) (with_twice x (heads_in rows))
again_at x y rows false false is at one all order some more = absurd (not_behind x y rows at is all order some)

again : (x : Row) (rows : List Row) → Each (AreOne x) rows → InOrder row_before rows → list_any (of_mask x.mask_serial) rows ≡ true → heads_in (placed row_before x rows) ≡ heads_in rows
again x [] all order some = absurd (false≢true some)
again x (y ∷ rows) all order some =
    again_at x y rows (row_before y x) (y.mask_serial == x.mask_serial) refl refl all.0 all.1 order.0 some (again x rows all.1 order.1)

pub tables_again : (x : Row) (rows : List Row) → Each (AreOne x) rows → list_any (of_mask x.mask_serial) rows ≡ true → tables_of (x ∷ rows) ≡ tables_of rows
tables_again x rows all some =
    again x (sorted row_before rows) (sorted_have (AreOne x) row_before rows all) (sorted_in_order row_before row_order rows) (any_sorted (of_mask x.mask_serial) rows ∙ some)
