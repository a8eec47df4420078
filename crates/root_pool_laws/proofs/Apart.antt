-- Numbers of a list that are different.
use Rattle.std.proofs.Common.{◌≡◌, ◌≢◌, ◌⊎◌, inl, inr, ℕ, zero, suc, Bool, true, false, eqb, List, [], ◌∷◌, ◌++◌, slice_get, Some, refl, sym, ap, subst, eqb-true, eq-eqb}
use Rattle.std.specs.List.{IsDistinct, AllByRecursion}
use Rattle.std.proofs.lemmas.Bool.{eqb-false}
use Rattle.hook_law.specs.Standing.{IsIn}

-- a number of one of two lists, one behind the other
pub in_append : {A : Type 0} (xs ys : List A) (x : A) → IsIn x (xs ++ ys) → IsIn x xs ⊎ IsIn x ys
in_append [] ys x at = inr at
in_append {A} (z ∷ xs) ys x at = go at.0 at.1 (in_append xs ys x)
  where
    go : (place : ℕ) → slice_get ((z ∷ xs) ++ ys) place ≡ Some x → (IsIn x (xs ++ ys) → IsIn x xs ⊎ IsIn x ys) → IsIn x (z ∷ xs) ⊎ IsIn x ys
    go zero e rest = inl (zero, e)
    go (suc place) e rest = more (rest (place, e))
      where
        more : IsIn x xs ⊎ IsIn x ys → IsIn x (z ∷ xs) ⊎ IsIn x ys
        more (inl one) = inl (suc one.0, one.1)
        more (inr one) = inr one

pub in_left : {A : Type 0} (xs ys : List A) (x : A) → IsIn x xs → IsIn x (xs ++ ys)
in_left {A} xs ys x at = (at.0, go xs at.0 at.1)
  where
    go : (zs : List A) (place : ℕ) → slice_get zs place ≡ Some x → slice_get (zs ++ ys) place ≡ Some x
    go [] place e = absurd (cc e)
    go (z ∷ zs) zero e = e
    go (z ∷ zs) (suc place) e = go zs place e

pub in_right : {A : Type 0} (xs ys : List A) (x : A) → IsIn x ys → IsIn x (xs ++ ys)
in_right [] ys x at = at
in_right (z ∷ xs) ys x at = let rest = in_right xs ys x at in (suc rest.0, rest.1)

-- what holds of each, and of all
each_of : (P : ℕ → Type 0) (xs : List ℕ) → AllByRecursion P xs → (x : ℕ) → IsIn x xs → P x
each_of P [] all x at = let e = at.1 in absurd (cc e)
each_of P (y ∷ ys) all x at = go at.0 at.1 (each_of P ys all.1 x)
  where
    go : (place : ℕ) → slice_get (y ∷ ys) place ≡ Some x → (IsIn x ys → P x) → P x
    go zero e rest = let same : y ≡ x = cc e in subst P same all.0
    go (suc place) e rest = rest (place, e)

all_of : (P : ℕ → Type 0) (xs : List ℕ) → ((x : ℕ) → IsIn x xs → P x) → AllByRecursion P xs
all_of P [] each = tt
all_of P (y ∷ ys) each = (each y (0, refl), all_of P ys (λ x at. each x (suc at.0, at.1)))

-- lists one behind the other are different where each is, and no number is in both
pub distinct_append : (xs ys : List ℕ) → IsDistinct eqb xs → IsDistinct eqb ys → ((x : ℕ) → IsIn x xs → IsIn x ys → ⊥) → IsDistinct eqb (xs ++ ys)
unfolding IsDistinct
distinct_append [] ys one two apart = two
distinct_append (x ∷ xs) ys one two apart = (
  all_of (λ y. eqb x y ≡ false) (xs ++ ys) (λ y at. sort y (in_append xs ys y at)),
  distinct_append xs ys one.1 two (λ y at. apart y (suc at.0, at.1)),
)
  where
    sort : (y : ℕ) → IsIn y xs ⊎ IsIn y ys → eqb x y ≡ false
    sort y (inl at) = each_of (λ z. eqb x z ≡ false) xs one.0 y at
    sort y (inr at) = differ (eqb x y) refl
      where
        differ : (t : Bool) → eqb x y ≡ t → eqb x y ≡ false
        differ false e = e
        differ true e = absurd (apart y (0, ap Some (eqb-true x y e)) at)

pub distinct_first : (xs ys : List ℕ) → IsDistinct eqb (xs ++ ys) → IsDistinct eqb xs
unfolding IsDistinct
distinct_first [] ys all = tt
distinct_first (x ∷ xs) ys all = (all_of (λ y. eqb x y ≡ false) xs (λ y at. each_of (λ z. eqb x z ≡ false) (xs ++ ys) all.0 y (in_left xs ys y at)), distinct_first xs ys all.1)

pub distinct_second : (xs ys : List ℕ) → IsDistinct eqb (xs ++ ys) → IsDistinct eqb ys
unfolding IsDistinct
distinct_second [] ys all = all
distinct_second (x ∷ xs) ys all = distinct_second xs ys all.1

-- and no number is in both
pub distinct_apart : (xs ys : List ℕ) → IsDistinct eqb (xs ++ ys) → (x : ℕ) → IsIn x xs → IsIn x ys → ⊥
unfolding IsDistinct
distinct_apart [] ys all x at in_ = let e = at.1 in cc e
distinct_apart (z ∷ xs) ys all x at in_ = go at.0 at.1 (λ one. distinct_apart xs ys all.1 x one in_)
  where
    go : (place : ℕ) → slice_get (z ∷ xs) place ≡ Some x → (IsIn x xs → ⊥) → ⊥
    go zero e rest = let same : z ≡ x = cc e in let differ = each_of (λ y. eqb z y ≡ false) (xs ++ ys) all.0 x (in_right xs ys x in_) in let equal = eq-eqb z x same in cc (differ, equal)
    go (suc place) e rest = rest (place, e)
