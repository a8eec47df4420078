-- A filter of a list, and its first element: what a search finds, and whether there is one.
use Rattle.std.proofs.Common.{◌≡◌, Bool, true, false, not, cond, ◌||◌, ◌&&◌, List, [], ◌∷◌, ◌++◌, Option, Some, None, option_map, is_some, refl, ◌∙◌, ap}
use Rattle.std.specs.Prelude.{filter, find}
use Rattle.std.specs.List.{list_any}
use Rattle.filter_state.specs.Sound.{Each}
use Rattle.filter_state.specs.Tables.{first_where}
use Rattle.filter_tables.specs.Changes.{is_none_left}
use Rattle.filter_tables.specs.Whole.{HasSome}
use Rattle.filter_state.proofs.Pairs.{none_any}

abbrev pub head_of : {X : Type 0} → List X → Option X
head_of [] = None
head_of (x ∷ xs) = Some x

-- ---- what a filter keeps
pub filter_all : {X : Type 0} (test : X → Bool) (xs : List X) → Each (λ x. test x ≡ true) xs → filter test xs ≡ xs
filter_all test [] all = refl
filter_all test (x ∷ xs) all = ap (λ b. cond b (x ∷ filter test xs) (filter test xs)) all.0 ∙ ap (λ ys. x ∷ ys) (filter_all test xs all.1)

pub filter_none : {X : Type 0} (test : X → Bool) (xs : List X) → Each (λ x. test x ≡ false) xs → filter test xs ≡ []
filter_none test [] all = refl
filter_none test (x ∷ xs) all = ap (λ b. cond b (x ∷ filter test xs) (filter test xs)) all.0 ∙ filter_none test xs all.1

-- ---- the first that passes is the first that is kept
first_step : {X : Type 0} (b : Bool) (x : X) (found : Option X) (ys : List X) → found ≡ head_of ys → cond b (Some x) found ≡ head_of (cond b (x ∷ ys) ys)
first_step true x found ys e = refl
first_step false x found ys e = e

pub first_head : {X : Type 0} (test : X → Bool) (xs : List X) → first_where test xs ≡ head_of (filter test xs)
first_head test [] = refl
first_head test (x ∷ xs) = first_step (test x) x (first_where test xs) (filter test xs) (first_head test xs)

pub find_head : {X : Type 0} (test : X → Bool) (xs : List X) → find test xs ≡ head_of (filter test xs)
find_head test [] = refl
find_head test (x ∷ xs) = first_step (test x) x (find test xs) (filter test xs) (find_head test xs)

any_step : {X : Type 0} (b any : Bool) (x : X) (ys : List X) → any ≡ not (is_none_left ys) → (b || any) ≡ not (is_none_left (cond b (x ∷ ys) ys))
any_step true any x ys e = refl
any_step false any x ys e = e

pub any_left : {X : Type 0} (test : X → Bool) (xs : List X) → list_any test xs ≡ not (is_none_left (filter test xs))
any_left test [] = refl
any_left test (x ∷ xs) = any_step (test x) (list_any test xs) x (filter test xs) (any_left test xs)

pub some_left : {X : Type 0} (xs : List X) → is_some (head_of xs) ≡ not (is_none_left xs)
some_left [] = refl
some_left (x ∷ xs) = refl

-- ---- two tests, one after the other
first_and_step : {X : Type 0} (b : Bool) (q : X → Bool) (x : X) (found : Option X) (ys : List X) → found ≡ first_where q ys → cond (b && q x) (Some x) found ≡ first_where q (cond b (x ∷ ys) ys)
first_and_step true q x found ys e = ap (cond (q x) (Some x)) e
first_and_step false q x found ys e = e

pub first_and : {X : Type 0} (p q : X → Bool) (xs : List X) → first_where (λ x. p x && q x) xs ≡ first_where q (filter p xs)
first_and p q [] = refl
first_and p q (x ∷ xs) = first_and_step (p x) q x (first_where (λ x. p x && q x) xs) (filter p xs) (first_and p q xs)

any_and_step : {X : Type 0} (b : Bool) (q : X → Bool) (x : X) (any : Bool) (ys : List X) → any ≡ list_any q ys → ((b && q x) || any) ≡ list_any q (cond b (x ∷ ys) ys)
any_and_step true q x any ys e = ap (λ c. q x || c) e
any_and_step false q x any ys e = e

pub any_and : {X : Type 0} (p q : X → Bool) (xs : List X) → list_any (λ x. p x && q x) xs ≡ list_any q (filter p xs)
any_and p q [] = refl
any_and p q (x ∷ xs) = any_and_step (p x) q x (list_any (λ x. p x && q x) xs) (filter p xs) (any_and p q xs)

filter_and_step : {X : Type 0} (b : Bool) (q : X → Bool) (x : X) (zs ys : List X) → zs ≡ filter q ys → cond (b && q x) (x ∷ zs) zs ≡ filter q (cond b (x ∷ ys) ys)
filter_and_step true q x zs ys e = ap (λ us. cond (q x) (x ∷ us) us) e
filter_and_step false q x zs ys e = e

pub filter_and : {X : Type 0} (p q : X → Bool) (xs : List X) → filter (λ x. p x && q x) xs ≡ filter q (filter p xs)
filter_and p q [] = refl
filter_and p q (x ∷ xs) = filter_and_step (p x) q x (filter (λ x. p x && q x) xs) (filter p xs) (filter_and p q xs)

-- ---- where none passes
pub none_kept : {X : Type 0} (test : X → Bool) (xs : List X) → list_any test xs ≡ false → filter test xs ≡ []
none_kept test xs e = filter_none test xs (none_any test xs e)

-- ---- the first of a list that has one
pub head_says : {X V : Type 0} (g : X → V) (v : V) (xs : List X) → HasSome xs → Each (λ x. g x ≡ v) xs → option_map g (head_of xs) ≡ Some v
head_says g v [] some all = elim some [ ]
head_says g v (x ∷ xs) some all = ap (λ w. Some w) all.0

pub head_front : {X : Type 0} (xs ys : List X) → HasSome xs → head_of (xs ++ ys) ≡ head_of xs
head_front [] ys some = elim some [ ]
head_front (x ∷ xs) ys some = refl
