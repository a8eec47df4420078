-- Numbers that are read off all rows don't depend on the order: how many tables and masks there are, how
-- often an action is named, the lowest pref and the lowest free handle.
use Rattle.std.proofs.Common.{◌≡◌, ℕ, ◌==◌, Bool, true, false, cond, ◌||◌, List, [], ◌∷◌, length, map, refl, sym, ◌∙◌, ap, suc, subst, eqb-true, eq-eqb, ◌+◌, ◌++◌, arith, zero, Option, Some, None}
use Rattle.std.specs.List.{list_any, count_by}
use Rattle.std.specs.Prelude.{filter}
use Rattle.std.proofs.lemmas.Bool.{false≢true, ne_eqb}
use Rattle.tc_base.specs.declared.hook.Hook.{Hook}
use Rattle.filter_state.specs.States.{Row}
use Rattle.filter_state.specs.Tables.{distinct, tables_of, masks_of, in_hook, in_table, table_count, mask_count, lesser, lowest_pref, has_handle, free_handle}
use Rattle.filter_state.specs.Order.{SameRows, none, keep, exchange, joined}
use Rattle.state_laws.proofs.OfOrder.Same.{or_swap, filter_same, any_same, length_same}
use Rattle.std.proofs.lemmas.List.Sums.{sum_by-append}
use Rattle.filter_state.specs.Sound.{places}
use Rattle.std.proofs.lemmas.Bool.Decides.{nat_tests}
use Rattle.filter_state.specs.Actions.{first_free}

abbrev is_among : ℕ → List ℕ → Bool
is_among n ns = list_any (λ m. m == n) ns

among_same : (number : Row → ℕ) (n : ℕ) {xs ys : List Row} → SameRows xs ys → is_among n (map number xs) ≡ is_among n (map number ys)
among_same number n none = refl
among_same number n (keep {x = x} s) = ap (λ b. number x == n || b) (among_same number n s)
among_same number n (exchange {x = x} {y = y} {xs = xs} differ) = or_swap (number x == n) (number y == n) (is_among n (map number xs))
among_same number n (joined s t) = among_same number n s ∙ among_same number n t

-- ---- a number in front
kept : (n : ℕ) (b c : Bool) (ns ms : List ℕ) → b ≡ c → length ns ≡ length ms → length (cond b ns (n ∷ ns)) ≡ length (cond c ms (n ∷ ms))
kept n true true ns ms is e = e
kept n true false ns ms is e = absurd (false≢true (sym is))
kept n false true ns ms is e = absurd (false≢true is)
kept n false false ns ms is e = ap suc e

-- ---- two numbers in front
apart : (a b : ℕ) (ns : List ℕ) (first second in_first in_second : Bool) → first ≡ false → second ≡ false →
    length (cond (first || in_first) (cond in_second ns (b ∷ ns)) (a ∷ cond in_second ns (b ∷ ns)))
    ≡ length (cond (second || in_second) (cond in_first ns (a ∷ ns)) (b ∷ cond in_first ns (a ∷ ns)))
apart a b ns true second in_first in_second e f = absurd (false≢true (sym e))
apart a b ns false true in_first in_second e f = absurd (false≢true (sym f))
apart a b ns false false true true e f = refl
apart a b ns false false true false e f = refl
apart a b ns false false false true e f = refl
apart a b ns false false false false e f = refl

crossed_either : (a b : ℕ) (ns : List ℕ) (same : Bool) → (a == b) ≡ same → length (distinct (a ∷ b ∷ ns)) ≡ length (distinct (b ∷ a ∷ ns))
crossed_either a b ns true is = subst (λ c. length (distinct (a ∷ c ∷ ns)) ≡ length (distinct (c ∷ a ∷ ns))) (eqb-true a b is) refl
crossed_either a b ns false is =
    apart a b (distinct ns) (b == a) (a == b) (is_among a ns) (is_among b ns)
    (ne_eqb b a (λ e. false≢true (sym is ∙ eq-eqb a b (sym e)))) is

numbers_same : (number : Row → ℕ) {xs ys : List Row} → SameRows xs ys → length (distinct (map number xs)) ≡ length (distinct (map number ys))
numbers_same number none = refl
numbers_same number (keep {x = x} {xs = xs} {ys = ys} s) =
    kept (number x) (is_among (number x) (map number xs)) (is_among (number x) (map number ys)) (distinct (map number xs)) (distinct (map number ys))
    (among_same number (number x) s) (numbers_same number s)
numbers_same number (exchange {x = x} {y = y} {xs = xs} differ) = crossed_either (number x) (number y) (map number xs) (number x == number y) refl
numbers_same number (joined s t) = numbers_same number s ∙ numbers_same number t

-- ---- tables and masks
tables_are : (rows : List Row) → tables_of rows ≡ map (λ (r : Row). r.table) rows
tables_are [] = refl
tables_are (row ∷ rows) = ap (λ ns. row.table ∷ ns) (tables_are rows)

masks_are : (rows : List Row) → masks_of rows ≡ map (λ (r : Row). r.mask_serial) rows
masks_are [] = refl
masks_are (row ∷ rows) = ap (λ ns. row.mask_serial ∷ ns) (masks_are rows)

pub table_count_same : (hook : Hook) {xs ys : List Row} → SameRows xs ys → table_count hook xs ≡ table_count hook ys
table_count_same hook {xs = xs} {ys = ys} s =
    ap (λ ns. length (distinct ns)) (tables_are (filter (in_hook hook) xs))
    ∙ numbers_same (λ (r : Row). r.table) (filter_same (in_hook hook) s)
    ∙ sym (ap (λ ns. length (distinct ns)) (tables_are (filter (in_hook hook) ys)))

pub mask_count_same : (hook : Hook) (chain pref : ℕ) {xs ys : List Row} → SameRows xs ys → mask_count hook chain pref xs ≡ mask_count hook chain pref ys
mask_count_same hook chain pref {xs = xs} {ys = ys} s =
    ap (λ ns. length (distinct ns)) (masks_are (filter (in_table hook chain pref) xs))
    ∙ numbers_same (λ (r : Row). r.mask_serial) (filter_same (in_table hook chain pref) s)
    ∙ sym (ap (λ ns. length (distinct ns)) (masks_are (filter (in_table hook chain pref) ys)))

-- ---- how often the places of rows name an action
abbrev times : ℕ → List ℕ → ℕ
times n ns = count_by (λ serial. serial == n) ns

times_append : (n : ℕ) (ms ns : List ℕ) → times n (ms ++ ns) ≡ times n ms + times n ns
times_append n ms ns = sum_by-append (λ serial. cond (serial == n) 1 0) ms ns

pub places_same : (n : ℕ) {xs ys : List Row} → SameRows xs ys → count_by (λ serial. serial == n) (places xs) ≡ count_by (λ serial. serial == n) (places ys)
places_same n none = refl
places_same n (keep {x = x} {xs = xs} {ys = ys} s) =
    times_append n x.actions (places xs) ∙ ap (λ k. times n x.actions + k) (places_same n s) ∙ sym (times_append n x.actions (places ys))
places_same n (exchange {x = x} {y = y} {xs = xs} differ) =
    let first = times_append n x.actions (y.actions ++ places xs) in
    let second = times_append n y.actions (places xs) in
    let third = times_append n y.actions (x.actions ++ places xs) in
    let fourth = times_append n x.actions (places xs) in
    omega arith
places_same n (joined s t) = places_same n s ∙ places_same n t

-- ---- the lowest pref
lesser_turn : (a b : ℕ) → lesser a (Some b) ≡ lesser b (Some a)
lesser_turn a b = grind (arith, nat_tests)

lesser_swap : (a b : ℕ) (o : Option ℕ) → lesser a (Some (lesser b o)) ≡ lesser b (Some (lesser a o))
lesser_swap a b None = lesser_turn a b
lesser_swap a b (Some c) = grind (arith, nat_tests)

pub lowest_same : {xs ys : List Row} → SameRows xs ys → lowest_pref xs ≡ lowest_pref ys
lowest_same none = refl
lowest_same (keep {x = x} s) = ap (λ o. Some (lesser x.pref o)) (lowest_same s)
lowest_same (exchange {x = x} {y = y} {xs = xs} differ) = ap (λ n. Some n) (lesser_swap x.pref y.pref (lowest_pref xs))
lowest_same (joined s t) = lowest_same s ∙ lowest_same t

-- ---- numbers that are used alike leave the same one free
free_same : (used taken : ℕ → Bool) → ((n : ℕ) → used n ≡ taken n) → (more least : ℕ) → first_free used more least ≡ first_free taken more least
free_same used taken alike zero least = refl
free_same used taken alike (suc more) least =
    ap (λ b. cond b (first_free used more (least + 1)) least) (alike least)
    ∙ ap (λ n. cond (taken least) n least) (free_same used taken alike more (least + 1))

pub free_handle_same : (hook : Hook) (chain pref : ℕ) {xs ys : List Row} → SameRows xs ys → free_handle hook chain pref xs ≡ free_handle hook chain pref ys
free_handle_same hook chain pref {xs = xs} {ys = ys} s =
    let used : ℕ → Bool = λ handle. list_any (has_handle handle) (filter (in_table hook chain pref) xs) in
    let taken : ℕ → Bool = λ handle. list_any (has_handle handle) (filter (in_table hook chain pref) ys) in
    free_same used taken (λ handle. any_same (has_handle handle) (filter_same (in_table hook chain pref) s)) (length xs) 1
    ∙ ap (λ n. first_free taken n 1) (length_same s)
