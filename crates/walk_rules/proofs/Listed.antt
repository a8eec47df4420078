-- Lists, tests of their elements, and the elements that pass.
use Rattle.std.proofs.Common.{◌≡◌, ◌∙◌, ℕ, ◌+◌, Bool, true, false, cond, ◌||◌, List, [], ◌∷◌, Option, Some, IfSome, refl, ap, arith}
use Rattle.std.specs.Prelude.{filter}
use Rattle.std.specs.List.{list_any, count_by}
use Rattle.std.proofs.lemmas.List.Sums.{sum_by-cons}
use Rattle.filter_state.specs.Tables.{first_where}
use Rattle.filter_state.specs.Sound.{Each, EachPair}
use Rattle.filter_state.proofs.Pairs.{each_weaker}
use Rattle.row_laws.specs.OfOrder.Sorted.{placed, sorted}
use Rattle.row_laws.proofs.OfOrder.Sorting.{each_placed}

-- ---- the first that passes
first_at : {X : Type 0} (P : X → Type 0) (b : Bool) (x : X) (o : Option X) → (b ≡ true → P x) → IfSome o P → IfSome (cond b (Some x) o) P
first_at P true x o here more = here refl
first_at P false x o here more = more

-- what holds of each element that passes holds of the first
pub first_has : {X : Type 0} (P Q : X → Type 0) (test : X → Bool) → ((x : X) → test x ≡ true → P x → Q x) → (xs : List X) → Each P xs → IfSome (first_where test xs) Q
first_has P Q test gives [] all = tt
first_has P Q test gives (x ∷ xs) all = first_at Q (test x) x (first_where test xs) (λ is. gives x is all.0) (first_has P Q test gives xs all.1)

-- ---- the elements that pass
kept_at : {X : Type 0} (P : X → Type 0) (b : Bool) (x : X) (xs : List X) → (b ≡ true → P x) → Each P xs → Each P (cond b (x ∷ xs) xs)
kept_at P true x xs here more = (here refl, more)
kept_at P false x xs here more = more

pub kept_have : {X : Type 0} (P Q : X → Type 0) (test : X → Bool) → ((x : X) → test x ≡ true → P x → Q x) → (xs : List X) → Each P xs → Each Q (filter test xs)
kept_have P Q test gives [] all = tt
kept_have P Q test gives (x ∷ xs) all = kept_at Q (test x) x (filter test xs) (λ is. gives x is all.0) (kept_have P Q test gives xs all.1)

pub kept_alike : {X : Type 0} (p q : X → Bool) (xs : List X) → Each (λ x. p x ≡ q x) xs → filter p xs ≡ filter q xs
kept_alike p q [] all = refl
kept_alike p q (x ∷ xs) all = ap (λ b. cond b (x ∷ filter p xs) (filter p xs)) all.0 ∙ ap (λ ys. cond (q x) (x ∷ ys) ys) (kept_alike p q xs all.1)

pub none_kept : {X : Type 0} (xs : List X) → filter (λ x. false) xs ≡ []
none_kept [] = refl
none_kept (x ∷ xs) = none_kept xs

-- what holds of the elements that pass holds of each where it passes
unkept_at : {X : Type 0} (P : X → Type 0) (b : Bool) (x : X) (xs : List X) → Each P (cond b (x ∷ xs) xs) → (b ≡ true → P x) × Each P xs
unkept_at P true x xs all = (λ is. all.0, all.1)
unkept_at P false x xs all = (λ is. absurd (cc is), all)

pub unkept : {X : Type 0} (P : X → Type 0) (test : X → Bool) (xs : List X) → Each P (filter test xs) → Each (λ x. test x ≡ true → P x) xs
unkept P test [] all = tt
unkept P test (x ∷ xs) all = let parts = unkept_at P (test x) x (filter test xs) all in (parts.0, unkept P test xs parts.1)

-- ---- some element passes
any_at : {X : Type 0} (P : X → Type 0) (test : X → Bool) (b : Bool) (x : X) (xs : List X) → test x ≡ b → P x → (b || list_any test xs) ≡ true →
    (list_any test xs ≡ true → (y : X) × (test y ≡ true) × P y) → (y : X) × (test y ≡ true) × P y
any_at P test true x xs is here some more = (x, is, here)
any_at P test false x xs is here some more = more some

pub any_has : {X : Type 0} (P : X → Type 0) (test : X → Bool) (xs : List X) → Each P xs → list_any test xs ≡ true → (x : X) × (test x ≡ true) × P x
any_has P test [] all some = absurd (cc some)
any_has P test (x ∷ xs) all some = any_at P test (test x) x xs refl all.0 some (any_has P test xs all.1)

-- ---- sorted lists
pub sorted_have : {X : Type 0} (P : X → Type 0) (before : X → X → Bool) (xs : List X) → Each P xs → Each P (sorted before xs)
sorted_have P before [] all = tt
sorted_have P before (x ∷ xs) all = each_placed P before x (sorted before xs) all.0 (sorted_have P before xs all.1)

unplaced_at : {X : Type 0} (P : X → Type 0) (b : Bool) (x y : X) (ys rest : List X) → (Each P rest → P x × Each P ys) → Each P (cond b (y ∷ rest) (x ∷ y ∷ ys)) → P x × Each P (y ∷ ys)
unplaced_at P true x y ys rest parts all = let more = parts all.1 in (more.0, (all.0, more.1))
unplaced_at P false x y ys rest parts all = all

unplaced : {X : Type 0} (P : X → Type 0) (before : X → X → Bool) (x : X) (ys : List X) → Each P (placed before x ys) → P x × Each P ys
unplaced P before x [] all = all
unplaced P before x (y ∷ ys) all = unplaced_at P (before y x) x y ys (placed before x ys) (unplaced P before x ys) all

pub unsorted : {X : Type 0} (P : X → Type 0) (before : X → X → Bool) (xs : List X) → Each P (sorted before xs) → Each P xs
unsorted P before [] all = tt
unsorted P before (x ∷ xs) all = let parts = unplaced P before x (sorted before xs) all in (parts.0, unsorted P before xs parts.1)

-- ---- each two elements, in either order
pub each_both : {X : Type 0} (P Q : X → Type 0) (xs : List X) → Each P xs → Each Q xs → Each (λ x. P x × Q x) xs
each_both P Q [] all more = tt
each_both P Q (x ∷ xs) all more = ((all.0, more.0), each_both P Q xs all.1 more.1)

pub pairs_of_all : {X : Type 0} (R : X → X → Type 0) (xs : List X) → Each (λ x. Each (R x) xs) xs → EachPair R xs
pairs_of_all R [] all = tt
pairs_of_all R (x ∷ xs) all = (all.0.1, pairs_of_all R xs (each_weaker (λ y. Each (R y) (x ∷ xs)) (λ y. Each (R y) xs) (λ y both. both.1) xs all.1))

-- ---- counts
abbrev pub one_if : Bool → ℕ
one_if b = cond b 1 0

pub count-cons : {X : Type 0} (test : X → Bool) (x : X) (xs : List X) → count_by test (x ∷ xs) ≡ one_if (test x) + count_by test xs
count-cons test x xs = sum_by-cons (λ y. cond (test y) 1 0) x xs

pub count-none : {X : Type 0} (test : X → Bool) (xs : List X) → Each (λ x. test x ≡ false) xs → count_by test xs ≡ 0
count-none test [] all = refl
count-none test (x ∷ xs) all =
    let rest : count_by test xs ≡ 0 = count-none test xs all.1 in
    let none : one_if (test x) ≡ 0 = ap one_if all.0 in
    let one = count-cons test x xs in
    omega (arith, rest, none, one)
