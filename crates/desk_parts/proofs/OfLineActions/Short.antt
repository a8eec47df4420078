-- A list of different numbers is no longer than any that has all of them.
use Rattle.std.proofs.Common.{◌≡◌, ◌≢◌, ◌⊎◌, inl, inr, ℕ, zero, suc, ◌+◌, ◌≤◌, Bool, true, false, not, cond, eqb, List, [], ◌∷◌, length, slice_get, Some, refl, sym, ap, subst, arith, eq-eqb}
use Rattle.std.specs.Prelude.{filter}
use Rattle.std.specs.List.{IsDistinct, AllByRecursion}
use Rattle.std.proofs.lemmas.Bool.{eqb-false, ne_eqb}
use Rattle.hook_law.specs.Standing.{IsIn}

abbrev Has : ℕ → List ℕ → Type 0
Has x [] = ⊥
Has x (y ∷ ys) = (x ≡ y) ⊎ Has x ys

has_in : (x : ℕ) (ys : List ℕ) → IsIn x ys → Has x ys
has_in x [] at = let e = at.1 in absurd (cc e)
has_in x (y ∷ ys) at = go at.0 at.1 (has_in x ys)
  where
    go : (place : ℕ) → slice_get (y ∷ ys) place ≡ Some x → (IsIn x ys → Has x ys) → Has x (y ∷ ys)
    go zero e rest = let same : y ≡ x = cc e in inl (sym same)
    go (suc place) e rest = inr (rest (place, e))

-- all but one number
abbrev others : ℕ → List ℕ → List ℕ
others x ys = filter (λ y. not (eqb x y)) ys

others_step : (b : Bool) (y : ℕ) (ys : List ℕ) (n : ℕ) → length ys ≤ n → length (cond b (y ∷ ys) ys) ≤ n + 1
others_step true y ys n less = omega (arith, less)
others_step false y ys n less = omega (arith, less)

no_longer : (x : ℕ) (ys : List ℕ) → length (others x ys) ≤ length ys
no_longer x [] = omega arith
no_longer x (y ∷ ys) = let step = others_step (not (eqb x y)) y (others x ys) (length ys) (no_longer x ys) in omega (arith, step)

shorter_step : (b : Bool) (y : ℕ) (ys : List ℕ) (n : ℕ) → length ys + 1 ≤ n → length (cond b (y ∷ ys) ys) + 1 ≤ n + 1
shorter_step true y ys n less = omega (arith, less)
shorter_step false y ys n less = omega (arith, less)

shorter : (x : ℕ) (ys : List ℕ) → Has x ys → length (others x ys) + 1 ≤ length ys
shorter x [] has = absurd has
shorter x (y ∷ ys) (inl same) = let step : length (cond (not (eqb x y)) (y ∷ others x ys) (others x ys)) ≤ length ys =
    subst (λ (b : Bool). length (cond (not b) (y ∷ others x ys) (others x ys)) ≤ length ys) (sym (eq-eqb x y same)) (no_longer x ys) in omega (arith, step)
shorter x (y ∷ ys) (inr has) = let step = shorter_step (not (eqb x y)) y (others x ys) (length ys) (shorter x ys has) in omega (arith, step)

has_step : (z : ℕ) (b : Bool) (y : ℕ) (ys : List ℕ) → Has z ys → Has z (cond b (y ∷ ys) ys)
has_step z true y ys has = inr has
has_step z false y ys has = has

has_other : (x z : ℕ) (ys : List ℕ) → x ≢ z → Has z ys → Has z (others x ys)
has_other x z [] away has = absurd has
has_other x z (y ∷ ys) away (inl same) = subst (λ (b : Bool). Has z (cond (not b) (y ∷ others x ys) (others x ys))) (sym (ne_eqb x y (λ e. absurd (away (omega (arith, e, same)))))) (inl same)
has_other x z (y ∷ ys) away (inr has) = has_step z (not (eqb x y)) y (others x ys) (has_other x z ys away has)

all_other : (x : ℕ) (xs : List ℕ) → AllByRecursion (λ y. eqb x y ≡ false) xs → (z : ℕ) → Has z xs → x ≢ z
all_other x [] all z has = absurd has
all_other x (y ∷ xs) all z (inl same) = λ e. eqb-false x y all.0 (omega (arith, e, same))
all_other x (y ∷ xs) all z (inr has) = all_other x xs all.1 z has

shorter_has : (xs ys : List ℕ) → IsDistinct eqb xs → ((x : ℕ) → Has x xs → Has x ys) → length xs ≤ length ys
unfolding IsDistinct
shorter_has [] ys different has = omega arith
shorter_has (x ∷ xs) ys different has =
    let less = shorter_has xs (others x ys) different.1 (λ z at. has_other x z ys (all_other x xs different.0 z at) (has z (inr at))) in
    let one = shorter x ys (has x (inl refl)) in omega (arith, less, one)

in_has : (x : ℕ) (ys : List ℕ) → Has x ys → IsIn x ys
in_has x [] has = absurd has
in_has x (y ∷ ys) (inl same) = (0, ap Some (sym same))
in_has x (y ∷ ys) (inr has) = let rest = in_has x ys has in (suc rest.0, rest.1)

pub not_longer : (xs ys : List ℕ) → IsDistinct eqb xs → ((x : ℕ) → IsIn x xs → IsIn x ys) → length xs ≤ length ys
not_longer xs ys different has = shorter_has xs ys different (λ x at. has_in x ys (has x (in_has x xs at)))
