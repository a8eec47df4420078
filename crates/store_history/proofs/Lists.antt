-- What stands where in lists that are put together or cut.
use Rattle.std.proofs.Common.{◌≡◌, ℕ, zero, suc, ◌+◌, ◌<◌, List, [], ◌∷◌, ◌++◌, length, take, drop, slice_get, Some, refl, ap, ◌∙◌, subst, arith}

module _ {A : Type 0} where
  pub get_before : (xs ys : List A) (n : ℕ) → n < length xs → slice_get (xs ++ ys) n ≡ slice_get xs n
  get_before [] ys n l = absurd (omega arith)
  get_before (x ∷ xs) ys zero l = refl
  get_before (x ∷ xs) ys (suc n) l = get_before xs ys n (omega arith)

  pub get_behind : (xs ys : List A) (n : ℕ) → slice_get (xs ++ ys) (length xs + n) ≡ slice_get ys n
  get_behind [] ys n = let none : 0 + n ≡ n = omega arith in ap (slice_get ys) none
  get_behind (x ∷ xs) ys n = let next : suc (length xs) + n ≡ suc (length xs + n) = omega arith in ap (slice_get (x ∷ (xs ++ ys))) next ∙ get_behind xs ys n

  pub get_last : (xs : List A) (a : A) → slice_get (xs ++ a ∷ []) (length xs) ≡ Some a
  get_last [] a = refl
  get_last (x ∷ xs) a = get_last xs a

  pub take_next : (xs : List A) (n : ℕ) (a : A) → slice_get xs n ≡ Some a → take (suc n) xs ≡ take n xs ++ a ∷ []
  take_next [] n a e = absurd (cc e)
  take_next (x ∷ xs) zero a e = ap (λ (z : A). z ∷ []) (cc e)
  take_next (x ∷ xs) (suc n) a e = ap (λ (z : List A). x ∷ z) (take_next xs n a e)

  pub get_some : (xs : List A) (n : ℕ) → n < length xs → (a : A) × (slice_get xs n ≡ Some a)
  get_some [] n l = absurd (omega arith)
  get_some (x ∷ xs) zero l = (x, refl)
  get_some (x ∷ xs) (suc n) l = get_some xs n (omega arith)

  pub get_take : (xs : List A) (n j : ℕ) (a : A) → slice_get (take n xs) j ≡ Some a → slice_get xs j ≡ Some a
  get_take xs zero j a e = absurd (cc e)
  get_take [] (suc n) j a e = absurd (cc e)
  get_take (x ∷ xs) (suc n) zero a e = e
  get_take (x ∷ xs) (suc n) (suc j) a e = get_take xs n j a e

  pub get_drop : (xs : List A) (n j : ℕ) (a : A) → slice_get (drop n xs) j ≡ Some a → slice_get xs (n + j) ≡ Some a
  get_drop xs zero j a e = let none : j ≡ 0 + j = omega arith in subst (λ (z : ℕ). slice_get xs z ≡ Some a) none e
  get_drop [] (suc n) j a e = absurd (cc e)
  get_drop (x ∷ xs) (suc n) j a e = let next : suc (n + j) ≡ suc n + j = omega arith in subst (λ (z : ℕ). slice_get (x ∷ xs) z ≡ Some a) next (get_drop xs n j a e)

  -- an element of two lists together is one of the first or of the second
  pub get_parts : {B : Type 0} (xs ys : List A) (j : ℕ) (a : A) → slice_get (xs ++ ys) j ≡ Some a → ((i : ℕ) → slice_get xs i ≡ Some a → B)
      → ((i : ℕ) → slice_get ys i ≡ Some a → B) → B
  get_parts [] ys j a e left right = right j e
  get_parts (x ∷ xs) ys zero a e left right = left 0 e
  get_parts (x ∷ xs) ys (suc j) a e left right = get_parts xs ys j a e (λ i at. left (suc i) at) right

  pub some_is : (x y : A) → Some x ≡ Some y → x ≡ y
  some_is x y e = cc e
