-- What is among the elements of a list, and lists that have no number in common.
use Rattle.std.proofs.Common.{◌≡◌, ◌∙◌, ◌⊎◌, inl, inr, ℕ, zero, suc, false, eqb, List, [], ◌∷◌, ◌++◌, map, take, drop, slice_get, Some, refl, sym, subst, eq-eqb}
use Rattle.std.specs.List.{IsDistinct, AllByRecursion}
use Rattle.std.proofs.lemmas.Bool.{true≢false}
use Rattle.mask_table.specs.Buckets.{IsAmong}
use Rattle.mask_bucket_edits.specs.Putting.{AreApart}

module _ {A : Type 0} where
  pub among_left : (x : A) (xs ys : List A) (k : ℕ) → slice_get xs k ≡ Some x → IsAmong x (xs ++ ys)
  among_left x [] ys k e = absurd (cc e)
  among_left x (z ∷ zs) ys zero e = (0, e)
  among_left x (z ∷ zs) ys (suc k) e = let r = among_left x zs ys k e in (suc r.0, r.1)

  pub among_right : (x : A) (xs ys : List A) → IsAmong x ys → IsAmong x (xs ++ ys)
  among_right x [] ys i = i
  among_right x (z ∷ zs) ys i = let r = among_right x zs ys i in (suc r.0, r.1)

  pub among_either : (x : A) (xs ys : List A) (k : ℕ) → slice_get (xs ++ ys) k ≡ Some x → IsAmong x xs ⊎ IsAmong x ys
  among_either x [] ys k e = inr (k, e)
  among_either x (z ∷ zs) ys zero e = inl (0, e)
  among_either x (z ∷ zs) ys (suc k) e = more (among_either x zs ys k e)
    where
      more : IsAmong x zs ⊎ IsAmong x ys → IsAmong x (z ∷ zs) ⊎ IsAmong x ys
      more (inl a) = inl (suc a.0, a.1)
      more (inr b) = inr b

  pub among_one : (x y : A) (k : ℕ) → slice_get (y ∷ []) k ≡ Some x → y ≡ x
  among_one x y zero e = cc e
  among_one x y (suc k) e = absurd (cc e)

  -- what is in a part is in the whole
  pub among_take : (x : A) (n : ℕ) (xs : List A) (k : ℕ) → slice_get (take n xs) k ≡ Some x → slice_get xs k ≡ Some x
  among_take x zero xs k e = absurd (cc e)
  among_take x (suc n) [] k e = absurd (cc e)
  among_take x (suc n) (y ∷ ys) zero e = e
  among_take x (suc n) (y ∷ ys) (suc k) e = among_take x n ys k e

  pub among_drop : (x : A) (n : ℕ) (xs : List A) (k : ℕ) → slice_get (drop n xs) k ≡ Some x → IsAmong x xs
  among_drop x zero xs k e = (k, e)
  among_drop x (suc n) [] k e = absurd (cc e)
  among_drop x (suc n) (y ∷ ys) k e = let r = among_drop x n ys k e in (suc r.0, r.1)

-- what is among the results comes from one
pub among_map : {A B : Type 0} (f : A → B) (y : B) (xs : List A) (k : ℕ) → slice_get (map f xs) k ≡ Some y → (x : A) × (slice_get xs k ≡ Some x) × (f x ≡ y)
among_map f y [] k e = absurd (cc e)
among_map f y (x ∷ xs) zero e = (x, refl, cc e)
among_map f y (x ∷ xs) (suc k) e = among_map f y xs k e

-- ---- numbers that are all different
not_again : (x : ℕ) (xs : List ℕ) → AllByRecursion (λ y. eqb x y ≡ false) xs → (k : ℕ) → slice_get xs k ≡ Some x → ⊥
not_again x [] all k e = cc e
not_again x (y ∷ ys) all zero e = let same : y ≡ x = cc e in true≢false (sym (eq-eqb x y (sym same)) ∙ all.0)
not_again x (y ∷ ys) all (suc k) e = not_again x ys all.1 k e

all_left : (P : ℕ → Type 0) (xs ys : List ℕ) → AllByRecursion P (xs ++ ys) → AllByRecursion P xs
all_left P [] ys all = tt
all_left P (x ∷ xs) ys all = (all.0, all_left P xs ys all.1)

all_right : (P : ℕ → Type 0) (xs ys : List ℕ) → AllByRecursion P (xs ++ ys) → AllByRecursion P ys
all_right P [] ys all = all
all_right P (x ∷ xs) ys all = all_right P xs ys all.1

pub different_left : (xs ys : List ℕ) → IsDistinct eqb (xs ++ ys) → IsDistinct eqb xs
unfolding IsDistinct
different_left [] ys d = tt
different_left (x ∷ xs) ys d = (all_left (λ y. eqb x y ≡ false) xs ys d.0, different_left xs ys d.1)

pub different_right : (xs ys : List ℕ) → IsDistinct eqb (xs ++ ys) → IsDistinct eqb ys
unfolding IsDistinct
different_right [] ys d = d
different_right (x ∷ xs) ys d = different_right xs ys d.1

-- so two parts have none in common
pub different_apart : (xs ys : List ℕ) → IsDistinct eqb (xs ++ ys) → AreApart xs ys
unfolding IsDistinct
different_apart xs ys d b (k, e) right = go xs d k e
  where
    go : (zs : List ℕ) → IsDistinct eqb (zs ++ ys) → (j : ℕ) → slice_get zs j ≡ Some b → ⊥
    go [] d j e = cc e
    go (z ∷ zs) d zero e = let same : z ≡ b = cc e in
        not_again z ys (all_right (λ y. eqb z y ≡ false) zs ys d.0) right.0 (subst (λ (x : ℕ). slice_get ys right.0 ≡ Some x) (sym same) right.1)
    go (z ∷ zs) d (suc j) e = go zs d.1 j e
