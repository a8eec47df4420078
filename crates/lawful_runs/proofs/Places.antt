-- Elements at the places of lists.
use Rattle.std.proofs.Common.{◌≡◌, ℕ, zero, suc, List, [], ◌∷◌, ◌++◌, length, take, Some, refl, sym, subst, arith, append_assoc, append-nil}
use Rattle.std.specs.List.{slice_get}
use Rattle.filter_state.specs.Sound.{Each, EachPair}
use Rattle.filter_state.proofs.Pairs.{pairs_push}

-- ---- each element
-- what holds of the elements at all places holds of each
pub each_from : {X : Type 0} (P : X → Type 0) (xs : List X) → ((place : ℕ) (x : X) → slice_get xs place ≡ Some x → P x) → Each P xs
each_from P [] all = tt
each_from P (x ∷ xs) all = (all 0 x refl, each_from P xs (λ place y is. all (suc place) y is))

-- ---- each pair
-- elements behind others, each of which goes with all those before it
pub pairs_behind : {X : Type 0} (R : X → X → Type 0) (before xs : List X) → EachPair R before → ((place : ℕ) (x : X) → slice_get xs place ≡ Some x → Each (λ y. R y x) (before ++ take place xs)) → EachPair R (before ++ xs)
pairs_behind R before [] pairs each = subst (EachPair R) (sym (append-nil before)) pairs
pairs_behind R before (x ∷ xs) pairs each =
    let first : Each (λ y. R y x) before = subst (Each (λ y. R y x)) (append-nil before) (each 0 x refl) in
    subst (EachPair R) (append_assoc before (x ∷ []) xs)
    (pairs_behind R (before ++ x ∷ []) xs (pairs_push R before x pairs first)
    (λ place y is. subst (Each (λ z. R z y)) (sym (append_assoc before (x ∷ []) (take place xs))) (each (suc place) y is)))

-- ---- two lists of one length
-- as many arrivals as outcomes: there is one at each place
pub one_there : {X Y : Type 0} (xs : List X) (ys : List Y) (place : ℕ) (y : Y) → length ys ≡ length xs → slice_get ys place ≡ Some y → (x : X) × (slice_get xs place ≡ Some x)
one_there xs [] place y same is = absurd (cc is)
one_there [] (first ∷ ys) place y same is = absurd (omega (arith, same))
one_there (x ∷ xs) (first ∷ ys) zero y same is = (x, refl)
one_there (x ∷ xs) (first ∷ ys) (suc place) y same is = one_there xs ys place y (omega (arith, same)) is
