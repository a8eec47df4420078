-- An element of a list at its place: found, read and changed, where contracts see another list than the code
-- holds.
use Rattle.std.proofs.Common.{◌≡◌, ℕ, ◌+◌, zero, suc, ◌<◌, Bool, true, false, cond, ltb, List, [], ◌∷◌, length, get_or, set, Option, Some, None, refl, sym, ap, ◌∙◌, subst, arith}
use Rattle.std.specs.Prelude.{map, option_map}
use Rattle.std.specs.List.{position, position_or_len, remove}
use Rattle.std.proofs.lemmas.Bool.Decides.{nat_tests}
use Rattle.filter_tables.specs.Places.{item_at, place_where, change_at, without_at}

-- ---- one element changed
pub map_changed : {X Y : Type 0} (f : X → Y) (change : Y → Y) (xs : List X) (at : ℕ) (was now : X) → at < length xs → was ≡ get_or xs at was →
    f now ≡ change (f was) → map f (set xs at now) ≡ change_at at change (map f xs)
map_changed f change [] at was now within read is = absurd (omega arith)
map_changed f change (x ∷ xs) zero was now within read is = ap (λ y. y ∷ map f xs) (is ∙ ap (λ z. change (f z)) read)
map_changed f change (x ∷ xs) (suc at) was now within read is = ap (λ rest. f x ∷ rest) (map_changed f change xs at was now (omega arith) read is)

pub map_kept : {X Y : Type 0} (f : X → Y) (xs : List X) (at : ℕ) (was now : X) → was ≡ get_or xs at was → f now ≡ f was → map f (set xs at now) ≡ map f xs
map_kept f [] at was now read is = refl
map_kept f (x ∷ xs) zero was now read is = ap (λ y. y ∷ map f xs) (is ∙ ap f read)
map_kept f (x ∷ xs) (suc at) was now read is = ap (λ rest. f x ∷ rest) (map_kept f xs at was now read is)

pub map_removed : {X Y : Type 0} (f : X → Y) (xs : List X) (at : ℕ) → map f (remove xs at) ≡ without_at at (map f xs)
map_removed f [] zero = refl
map_removed f [] (suc at) = refl
map_removed f (x ∷ xs) zero = refl
map_removed f (x ∷ xs) (suc at) = ap (λ rest. f x ∷ rest) (map_removed f xs at)

-- ---- the element at a place
pub item_read : {X Y : Type 0} (f : X → Y) (xs : List X) (at : ℕ) (was : X) → at < length xs → was ≡ get_or xs at was → item_at (map f xs) at ≡ Some (f was)
item_read f [] at was within read = absurd (omega arith)
item_read f (x ∷ xs) zero was within read = ap (λ z. Some (f z)) (sym read)
item_read f (x ∷ xs) (suc at) was within read = item_read f xs at was (omega arith) read

item_within : {X Y : Type 0} (f : X → Y) (xs : List X) (at : ℕ) (y : Y) → item_at (map f xs) at ≡ Some y → at < length xs
item_within f [] at y e = cc
item_within f (x ∷ xs) zero y e = omega arith
item_within f (x ∷ xs) (suc at) y e = let rest = item_within f xs at y e in omega arith

same_item : {X : Type 0} (item : Option X) (x y : X) → item ≡ Some x → item ≡ Some y → x ≡ y
same_item item x y a b = cc

-- ---- the place that a test finds
abbrev pub Found : {X : Type 0} → (X → Bool) → List X → ℕ → Type 0
Found {X} test xs at = (x : X) × (item_at xs at ≡ Some x) × (test x ≡ true)

found_step : {X : Type 0} (first : Bool) (test : X → Bool) (x : X) (xs : List X) (rest : Option ℕ) (at : ℕ) → ((n : ℕ) → rest ≡ Some n → Found test xs n) →
    test x ≡ first → cond first (Some 0) (option_map suc rest) ≡ Some at → Found test (x ∷ xs) at
found_step true test x xs rest at next is e =
    let here : 0 ≡ at = cc in
    let here_found : Found test (x ∷ xs) 0 = (x, refl, is) in
    subst (λ n. Found test (x ∷ xs) n) here here_found
found_step false test x xs None at next is e = cc
found_step false test x xs (Some n) at next is e =
    let later : suc n ≡ at = cc in
    let later_found : Found test (x ∷ xs) (suc n) = next n refl in
    subst (λ k. Found test (x ∷ xs) k) later later_found

pub place_found : {X : Type 0} (test : X → Bool) (xs : List X) (at : ℕ) → place_where test xs ≡ Some at → Found test xs at
place_found test [] at e = cc
place_found test (x ∷ xs) at e = found_step (test x) test x xs (place_where test xs) at (λ n is. place_found test xs n is) refl e

pub place_within : {X Y : Type 0} (f : X → Y) (test : Y → Bool) (xs : List X) (at : ℕ) → place_where test (map f xs) ≡ Some at → at < length xs
place_within f test xs at e = let found = place_found test (map f xs) at e in item_within f xs at found.0 found.1

pub place_passes : {X Y : Type 0} (f : X → Y) (test : Y → Bool) (xs : List X) (at : ℕ) (was : X) → place_where test (map f xs) ≡ Some at → was ≡ get_or xs at was →
    test (f was) ≡ true
place_passes f test xs at was e read =
    let found = place_found test (map f xs) at e in
    let same = same_item (item_at (map f xs) at) found.0 (f was) found.1 (item_read f xs at was (item_within f xs at found.0 found.1) read) in
    ap test (sym same) ∙ found.2

-- ---- std's word for the same
later_place : (b : Bool) (n m more long : ℕ) → ltb n m ≡ b → more ≡ n + 1 → long ≡ m + 1 →
    option_map suc (cond (ltb n m) (Some n) None) ≡ cond (ltb more long) (Some more) None
later_place true n m more long less more_is long_is =
    let still : ltb more long ≡ true = grind (arith, nat_tests) in
    let next : suc n ≡ more = omega arith in
    rw (less, still) (ap (λ k. Some k) next)
later_place false n m more long less more_is long_is =
    let still : ltb more long ≡ false = grind (arith, nat_tests) in
    rw (less, still) refl

step_place : {X : Type 0} (b : Bool) (test : X → Bool) (x : X) (xs : List X) → test x ≡ b →
    cond b (Some 0) (option_map suc (position test xs)) ≡ position test (x ∷ xs)
step_place true test x xs is =
    let none : position_or_len test (x ∷ xs) ≡ 0 = rw is refl in
    let less : ltb 0 (length (x ∷ xs)) ≡ true = grind (arith, nat_tests) in
    rw (none, less) refl
step_place false test x xs is =
    let more : position_or_len test (x ∷ xs) ≡ position_or_len test xs + 1 = rw is (omega arith) in
    later_place (ltb (position_or_len test xs) (length xs)) (position_or_len test xs) (length xs) (position_or_len test (x ∷ xs)) (length (x ∷ xs)) refl more (omega arith)

pub place_is_position : {X Y : Type 0} (f : X → Y) (test : Y → Bool) (xs : List X) → position (λ x. test (f x)) xs ≡ place_where test (map f xs)
place_is_position f test [] = refl
place_is_position f test (x ∷ xs) =
    sym (step_place (test (f x)) (λ y. test (f y)) x xs refl)
    ∙ ap (λ place. cond (test (f x)) (Some 0) (option_map suc place)) (place_is_position f test xs)
