-- How often a number stands in a list.
use Rattle.std.proofs.Common.{◌≡◌, ℕ, ◌+◌, ◌≤◌, ◌<◌, ◌≢◌, ◌==◌, Bool, true, false, List, [], ◌∷◌, ◌++◌, refl, ap, inl, inr, arith}
use Rattle.std.specs.Prelude.{nat_lt, if◌then◌else◌}
use Rattle.std.proofs.lemmas.Bool.Decides.{nat_tests, eqb_tells}
use Rattle.std.proofs.lemmas.List.Sums.{sum_by-cons, sum_by-append}
use Rattle.step_counts.specs.Claims.{times, once_below}

-- 1 where the numbers are the same, else 0
abbrev pub same_as : ℕ → ℕ → ℕ
same_as x number = if x == number then 1 else 0

pub same_of : (x number : ℕ) (b : Bool) → (x == number) ≡ b → same_as x number ≡ (if b then 1 else 0)
same_of x number b is = ap (λ (c : Bool). if c then 1 else 0) is

pub other_of : (x number : ℕ) → x ≢ number → same_as x number ≡ 0
other_of x number apart = elim (eqb_tells x number) [
  | inl told ↦ absurd (apart told.1)
  | inr told ↦ same_of x number false told.0
]

pub times_cons : (number x : ℕ) (xs : List ℕ) → times number (x ∷ xs) ≡ same_as x number + times number xs
times_cons number x xs = sum_by-cons (same_is number) x xs
  where
    same_is : ℕ → ℕ → ℕ
    same_is number other = if other == number then 1 else 0

pub times_append : (number : ℕ) (xs ys : List ℕ) → times number (xs ++ ys) ≡ times number xs + times number ys
times_append number xs ys = sum_by-append _ xs ys

pub times_one : (number x : ℕ) → times number (x ∷ []) ≡ same_as x number
times_one number x = let e = times_cons number x [] in omega (arith, e)

-- ---- below a bound, and past it
pub below_once : (bound x : ℕ) → 1 ≤ once_below bound x → x < bound
below_once bound x some = by_test (nat_lt x bound) refl
  where
    by_test : (b : Bool) → nat_lt x bound ≡ b → x < bound
    by_test true is = grind (arith, nat_tests)
    by_test false is = (let none : once_below bound x ≡ 0 = ap (λ (b : Bool). if b then 1 else 0) is in absurd (omega (arith, some, none)))

pub once_is : (bound x : ℕ) → x < bound → once_below bound x ≡ 1
once_is bound x less = let is : nat_lt x bound ≡ true = grind (arith, nat_tests) in ap (λ (b : Bool). if b then 1 else 0) is

pub once_not : (bound x : ℕ) → bound ≤ x → once_below bound x ≡ 0
once_not bound x most = let is : nat_lt x bound ≡ false = grind (arith, nat_tests) in ap (λ (b : Bool). if b then 1 else 0) is
