-- A sum over numbers, each of those below a bound once, is the sum over the numbers below the bound.
use Rattle.std.proofs.Common.{◌≡◌, ◌∙◌, ℕ, zero, suc, ◌+◌, ◌*◌, ◌≤◌, ◌<◌, true, false, List, [], ◌∷◌, refl, sym, ap, inl, inr, arith, eq-eqb}
use Rattle.std.specs.Prelude.{sum_by}
use Rattle.std.proofs.lemmas.Bool.Decides.{eqb_tells}
use Rattle.std.proofs.lemmas.List.Sums.{sum_by-cons}
use Rattle.step_counts.specs.Claims.{times, HasEachBelow}
use Rattle.step_counts.specs.Drawn.{sum_to}
use Rattle.step_counts.proofs.Numbers.{same_as, same_of, times_cons, below_once, once_is}

sum_same : (f g : ℕ → ℕ) (bound : ℕ) → ((i : ℕ) → i < bound → f i ≡ g i) → sum_to f bound ≡ sum_to g bound
sum_same f g zero same = refl
sum_same f g (suc bound) same =
    let rest = sum_same f g bound (λ i less. same i (omega (arith, less))) in
    let last = same bound (omega arith) in
    omega (arith, rest, last)

sum_both : (f g : ℕ → ℕ) (bound : ℕ) → sum_to (λ i. f i + g i) bound ≡ sum_to f bound + sum_to g bound
sum_both f g zero = refl
sum_both f g (suc bound) = let rest = sum_both f g bound in omega (arith, rest)

nothing_of : (m : ℕ) → m * 0 ≡ 0
nothing_of m = omega arith

one_time : (m : ℕ) → m * 1 ≡ m
one_time m = omega arith

-- ---- a number adds its own weight, if it is below the bound
none_of : (g : ℕ → ℕ) (x bound : ℕ) → bound ≤ x → sum_to (λ i. g i * same_as x i) bound ≡ 0
none_of g x zero most = refl
none_of g x (suc bound) most =
    let rest = none_of g x bound (omega (arith, most)) in
    let other : same_as x bound ≡ 0 = elim (eqb_tells x bound) [
      | inl told ↦ (let e = told.1 in absurd (omega (arith, most, e)))
      | inr told ↦ same_of x bound false told.0
    ] in
    let last : g bound * same_as x bound ≡ 0 = ap (λ (m : ℕ). g bound * m) other ∙ nothing_of (g bound) in
    omega (arith, rest, last)

one_of : (g : ℕ → ℕ) (x bound : ℕ) → x < bound → sum_to (λ i. g i * same_as x i) bound ≡ g x
one_of g x zero less = absurd (omega (arith, less))
one_of g x (suc bound) less = elim (eqb_tells x bound) [
  | inl told ↦ (
      let e = told.1 in
      let rest = none_of g x bound (omega (arith, e)) in
      let one : same_as x bound ≡ 1 = same_of x bound true told.0 in
      let last : g bound * same_as x bound ≡ g bound = ap (λ (m : ℕ). g bound * m) one ∙ one_time (g bound) in
      let own : g bound ≡ g x = ap g (sym e) in
      omega (arith, rest, last, own))
  | inr told ↦ (
      let apart = told.1 in
      let rest = one_of g x bound (grind arith) in
      let other : same_as x bound ≡ 0 = same_of x bound false told.0 in
      let last : g bound * same_as x bound ≡ 0 = ap (λ (m : ℕ). g bound * m) other ∙ nothing_of (g bound) in
      omega (arith, rest, last))
]

-- ---- all of them
spread : (g : ℕ → ℕ) (x : ℕ) (xs : List ℕ) (i : ℕ) → g i * times i (x ∷ xs) ≡ g i * same_as x i + g i * times i xs
spread g x xs i = ap (λ (m : ℕ). g i * m) (times_cons i x xs) ∙ grind arith

nothing : (g : ℕ → ℕ) (bound : ℕ) → sum_to (λ i. g i * times i []) bound ≡ 0
nothing g zero = refl
nothing g (suc bound) =
    let rest = nothing g bound in
    let last : g bound * times bound [] ≡ 0 = nothing_of (g bound) in
    omega (arith, rest, last)

weighed : (g : ℕ → ℕ) (bound : ℕ) (xs : List ℕ) → ((x : ℕ) → 1 ≤ times x xs → x < bound) → sum_by g xs ≡ sum_to (λ i. g i * times i xs) bound
weighed g bound [] below = sym (nothing g bound)
weighed g bound (x ∷ xs) below =
    let own : x < bound = below x (let count = times_cons x x xs in
    let one : same_as x x ≡ 1 = same_of x x true (eq-eqb x x refl) in omega (arith, count, one)) in
    let rest = weighed g bound xs (λ y some. below y (let count = times_cons y x xs in omega (arith, count, some))) in
    let here : sum_by g (x ∷ xs) ≡ g x + sum_by g xs = sum_by-cons g x xs in
    let one = one_of g x bound own in
    let both : sum_to (λ i. g i * times i (x ∷ xs)) bound ≡ sum_to (λ i. g i * same_as x i) bound + sum_to (λ i. g i * times i xs) bound =
    sum_same (λ i. g i * times i (x ∷ xs)) (λ i. g i * same_as x i + g i * times i xs) bound (λ i less. spread g x xs i)
    ∙ sum_both (λ i. g i * same_as x i) (λ i. g i * times i xs) bound in
    omega (arith, rest, here, one, both)

pub sums_once : (g : ℕ → ℕ) (bound : ℕ) (xs : List ℕ) → HasEachBelow bound xs → sum_by g xs ≡ sum_to g bound
sums_once g bound xs each =
    weighed g bound xs (λ x some. below_once bound x (let e = each x in omega (arith, some, e)))
    ∙ sum_same (λ i. g i * times i xs) g bound (λ i less. ap (λ (m : ℕ). g i * m) (each i ∙ once_is bound i less) ∙ one_time (g i))
