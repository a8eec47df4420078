-- How many different numbers a list of lists has, where each inner list has one number and no two have the
-- same.
use Rattle.std.proofs.Common.{◌≡◌, ℕ, suc, ◌==◌, Bool, true, false, cond, ◌||◌, List, [], ◌∷◌, ◌++◌, length, refl, sym, ◌∙◌, ap, eqb-true, eq-eqb}
use Rattle.std.specs.List.{list_any, flat_map}
use Rattle.std.proofs.lemmas.Bool.{false_from_ne_true}
use Rattle.filter_state.specs.States.{Row}
use Rattle.filter_state.specs.Sound.{Each, EachPair}
use Rattle.filter_state.specs.Tables.{distinct, tables_of, masks_of}
use Rattle.filter_tables.specs.Whole.{HasSome}
use Rattle.filter_state.proofs.Pairs.{each_weaker, each_flat_map}

abbrev is_among : ℕ → List ℕ → Bool
is_among n ns = list_any (λ m. m == n) ns

-- ---- one number in front, as often as it may be
among_same : (n m : ℕ) (ms rest : List ℕ) → m ≡ n → is_among n (m ∷ ms ++ rest) ≡ true
among_same n m ms rest e = ap (λ b. b || is_among n (ms ++ rest)) (eq-eqb m n e)

block_step : (n m : ℕ) (ms rest : List ℕ) → m ≡ n → Each (λ k. k ≡ n) ms → is_among n rest ≡ false → distinct (m ∷ ms ++ rest) ≡ n ∷ distinct rest
block_step n m [] rest e all none =
    ap (λ b. cond b (distinct rest) (m ∷ distinct rest)) (ap (λ k. is_among k rest) e ∙ none) ∙ ap (λ k. k ∷ distinct rest) e
block_step n m (k ∷ ms) rest e all none =
    ap (λ b. cond b (distinct (k ∷ ms ++ rest)) (m ∷ distinct (k ∷ ms ++ rest))) (among_same m k ms rest (all.0 ∙ sym e))
    ∙ block_step n k ms rest all.0 all.1 none

block : (n : ℕ) (ns rest : List ℕ) → HasSome ns → Each (λ k. k ≡ n) ns → is_among n rest ≡ false → distinct (ns ++ rest) ≡ n ∷ distinct rest
block n [] rest some all none = elim some [ ]
block n (m ∷ ms) rest some all none = block_step n m ms rest all.0 all.1 none

none_among : (n : ℕ) (ns : List ℕ) → Each (λ m. m ≡ n → ⊥) ns → is_among n ns ≡ false
none_among n [] all = refl
none_among n (m ∷ ms) all =
    ap (λ b. b || is_among n ms) (false_from_ne_true (m == n) (λ e. all.0 (eqb-true m n e))) ∙ none_among n ms all.1

pub count_blocks : {X : Type 0} (f : X → List ℕ) (n : X → ℕ) (xs : List X) → Each (λ x. HasSome (f x)) xs → ((x : X) → Each (λ m. m ≡ n x) (f x)) →
    EachPair (λ x y. n x ≡ n y → ⊥) xs → length (distinct (flat_map f xs)) ≡ length xs
count_blocks f n [] some all apart = refl
count_blocks f n (x ∷ xs) some all apart =
    let other = each_flat_map (λ m. m ≡ n x → ⊥) f xs
    (each_weaker (λ y. n x ≡ n y → ⊥) (λ y. Each (λ m. m ≡ n x → ⊥) (f y))
    (λ y differ. each_weaker (λ m. m ≡ n y) (λ m. m ≡ n x → ⊥) (λ m is at. differ (sym at ∙ is)) (f y) (all y)) xs apart.0) in
    ap length (block (n x) (f x) (flat_map f xs) some.0 (all x) (none_among (n x) (flat_map f xs) other))
    ∙ ap suc (count_blocks f n xs some.1 all apart.1)

-- ---- the numbers of rows in lists of lists
tables_append : (xs ys : List Row) → tables_of (xs ++ ys) ≡ tables_of xs ++ tables_of ys
tables_append [] ys = refl
tables_append (x ∷ xs) ys = ap (λ ns. x.table ∷ ns) (tables_append xs ys)

pub tables_blocks : {X : Type 0} (f : X → List Row) (xs : List X) → tables_of (flat_map f xs) ≡ flat_map (λ x. tables_of (f x)) xs
tables_blocks f [] = refl
tables_blocks f (x ∷ xs) = tables_append (f x) (flat_map f xs) ∙ ap (λ ns. tables_of (f x) ++ ns) (tables_blocks f xs)

masks_append : (xs ys : List Row) → masks_of (xs ++ ys) ≡ masks_of xs ++ masks_of ys
masks_append [] ys = refl
masks_append (x ∷ xs) ys = ap (λ ns. x.mask_serial ∷ ns) (masks_append xs ys)

pub masks_blocks : {X : Type 0} (f : X → List Row) (xs : List X) → masks_of (flat_map f xs) ≡ flat_map (λ x. masks_of (f x)) xs
masks_blocks f [] = refl
masks_blocks f (x ∷ xs) = masks_append (f x) (flat_map f xs) ∙ ap (λ ns. masks_of (f x) ++ ns) (masks_blocks f xs)

pub tables_each : (P : ℕ → Type 0) (rows : List Row) → Each (λ (r : Row). P r.table) rows → Each P (tables_of rows)
tables_each P [] all = tt
tables_each P (r ∷ rs) all = (all.0, tables_each P rs all.1)

pub masks_each : (P : ℕ → Type 0) (rows : List Row) → Each (λ (r : Row). P r.mask_serial) rows → Each P (masks_of rows)
masks_each P [] all = tt
masks_each P (r ∷ rs) all = (all.0, masks_each P rs all.1)

pub some_tables : (rows : List Row) → HasSome rows → HasSome (tables_of rows)
some_tables [] some = elim some [ ]
some_tables (r ∷ rs) some = tt

pub some_masks : (rows : List Row) → HasSome rows → HasSome (masks_of rows)
some_masks [] some = elim some [ ]
some_masks (r ∷ rs) some = tt
