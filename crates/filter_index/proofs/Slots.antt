-- Where a test finds its value among slots of which some are empty, and how a new, a changed or an emptied
-- slot moves that.
use Rattle.std.proofs.Common.{◌≡◌, ℕ, suc, ◌≤◌, Bool, true, false, cond, ◌||◌, List, [], ◌∷◌, ◌++◌, length, Option, Some, None, refl, sym, ap, ◌∙◌, arith}
use Rattle.std.specs.Prelude.{is_some, option_map}
use Rattle.std.specs.List.{list_any}
use Rattle.filter_index.specs.Listed.{those_there}
use Rattle.filter_index.specs.Places.{place_of}

-- ---- the values of a list of slots
pub there_append : {X : Type 0} (xs ys : List (Option X)) → those_there (xs ++ ys) ≡ those_there xs ++ those_there ys
there_append [] ys = refl
there_append (Some x ∷ xs) ys = ap (λ rest. x ∷ rest) (there_append xs ys)
there_append (None ∷ xs) ys = there_append xs ys

pub there_le : {X : Type 0} (xs : List (Option X)) → length (those_there xs) ≤ length xs
there_le [] = omega arith
there_le (Some x ∷ xs) = let rest = there_le xs in omega arith
there_le (None ∷ xs) = let rest = there_le xs in omega arith

-- ---- a place is found exactly where a value passes
later_some : (place : Option ℕ) (any : Bool) → is_some place ≡ any → is_some (option_map suc place) ≡ any
later_some None any e = e
later_some (Some n) any e = e

first_some : (first : Bool) (place : Option ℕ) (any : Bool) → is_some place ≡ any → is_some (cond first (Some 0) (option_map suc place)) ≡ (first || any)
first_some true place any e = refl
first_some false place any e = later_some place any e

pub place_any : {X : Type 0} (test : X → Bool) (slots : List (Option X)) → is_some (place_of test slots) ≡ list_any test (those_there slots)
place_any test [] = refl
place_any test (Some x ∷ slots) = first_some (test x) (place_of test slots) (list_any test (those_there slots)) (place_any test slots)
place_any test (None ∷ slots) = later_some (place_of test slots) (list_any test (those_there slots)) (place_any test slots)

no_place : (place : Option ℕ) → is_some place ≡ false → place ≡ None
no_place None e = refl
no_place (Some n) e = cc

pub none_there : {X : Type 0} (test : X → Bool) (slots : List (Option X)) → list_any test (those_there slots) ≡ false → place_of test slots ≡ None
none_there test slots none = no_place (place_of test slots) (place_any test slots ∙ none)

-- ---- a slot that is changed
pub place_same : {X : Type 0} (test : X → Bool) (front back : List (Option X)) (x y : X) → test y ≡ test x →
    place_of test (front ++ Some y ∷ back) ≡ place_of test (front ++ Some x ∷ back)
place_same test [] back x y e = ap (λ first. cond first (Some 0) (option_map suc (place_of test back))) e
place_same test (Some z ∷ front) back x y e = ap (λ place. cond (test z) (Some 0) (option_map suc place)) (place_same test front back x y e)
place_same test (None ∷ front) back x y e = ap (λ place. option_map suc place) (place_same test front back x y e)

-- ---- a slot that is emptied
pub place_emptied : {X : Type 0} (test : X → Bool) (front back : List (Option X)) (x : X) → test x ≡ false →
    place_of test (front ++ None ∷ back) ≡ place_of test (front ++ Some x ∷ back)
place_emptied test [] back x e = ap (λ first. cond first (Some 0) (option_map suc (place_of test back))) (sym e)
place_emptied test (Some z ∷ front) back x e = ap (λ place. cond (test z) (Some 0) (option_map suc place)) (place_emptied test front back x e)
place_emptied test (None ∷ front) back x e = ap (λ place. option_map suc place) (place_emptied test front back x e)

-- ---- a slot behind the others
pub place_other : {X : Type 0} (test : X → Bool) (slots : List (Option X)) (x : X) → test x ≡ false →
    place_of test (slots ++ Some x ∷ []) ≡ place_of test slots
place_other test [] x e = ap (λ first. cond first (Some 0) None) e
place_other test (Some z ∷ slots) x e = ap (λ place. cond (test z) (Some 0) (option_map suc place)) (place_other test slots x e)
place_other test (None ∷ slots) x e = ap (λ place. option_map suc place) (place_other test slots x e)

later_none : (place now : Option ℕ) (at : ℕ) → (place ≡ None → now ≡ Some at) → option_map suc place ≡ None → option_map suc now ≡ Some (suc at)
later_none None now at then e = ap (λ p. option_map suc p) (then refl)
later_none (Some n) now at then e = cc

first_none : (first : Bool) (place now : Option ℕ) (at : ℕ) → (place ≡ None → now ≡ Some at) → cond first (Some 0) (option_map suc place) ≡ None →
    cond first (Some 0) (option_map suc now) ≡ Some (suc at)
first_none true place now at then e = cc
first_none false place now at then e = later_none place now at then e

pub place_new : {X : Type 0} (test : X → Bool) (slots : List (Option X)) (x : X) → place_of test slots ≡ None → test x ≡ true →
    place_of test (slots ++ Some x ∷ []) ≡ Some (length slots)
place_new test [] x none e = ap (λ first. cond first (Some 0) None) e
place_new test (Some z ∷ slots) x none e =
    first_none (test z) (place_of test slots) (place_of test (slots ++ Some x ∷ [])) (length slots) (λ n. place_new test slots x n e) none
place_new test (None ∷ slots) x none e =
    later_none (place_of test slots) (place_of test (slots ++ Some x ∷ [])) (length slots) (λ n. place_new test slots x n e) none
