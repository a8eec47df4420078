-- Each number is drawn once.
use Rattle.std.proofs.Common.{◌≡◌, ℕ, ◌+◌, ◌≤◌, ◌<◌, true, List, [], ◌∷◌, ◌++◌, refl, inl, inr, arith, eq-eqb}
use Rattle.std.specs.List.{AllByRecursion}
use Rattle.std.proofs.lemmas.Bool.{cases_lt}
use Rattle.step_counts.specs.Claims.{times, HasEachBelow}
use Rattle.step_counts.specs.Drawn.{Drawn, IsDrawnTo, numbers_in, deeds_in}
use Rattle.step_counts.proofs.Numbers.{same_as, same_of, other_of, times_cons, times_append, times_one, below_once, once_is, once_not}

times_none : (bound number : ℕ) (xs : List ℕ) → bound ≤ number → AllByRecursion (λ (x : ℕ). x < bound) xs → times number xs ≡ 0
times_none bound number [] past each = refl
times_none bound number (x ∷ xs) past each =
    let rest = times_none bound number xs past each.1 in
    let less = each.0 in
    let one = times_cons number x xs in
    let none = other_of x number (λ same. absurd (omega (arith, less, past, same))) in
    omega (arith, rest, one, none)

numbers_none : (bound number : ℕ) (all : List Drawn) → bound ≤ number → AllByRecursion (IsDrawnTo bound) all → times number (numbers_in all) ≡ 0
numbers_none bound number [] past each = refl
numbers_none bound number (it ∷ all) past each =
    let rest = numbers_none bound number all past each.1 in
    let own = times_none bound number it.numbers past each.0.below in
    let both = times_append number it.numbers (numbers_in all) in
    omega (arith, rest, own, both)

-- below the bound the last numbers count nothing
same_times : (bound number : ℕ) (all : List Drawn) → number < bound → AllByRecursion (IsDrawnTo bound) all → times number (deeds_in all) ≡ times number (numbers_in all)
same_times bound number [] less each = refl
same_times bound number (it ∷ all) less each =
    let rest = same_times bound number all less each.1 in
    let past = each.0.past in
    let none = other_of it.last number (λ same. absurd (omega (arith, less, past, same))) in
    let one = times_one number it.last in
    let own = times_append number it.numbers (it.last ∷ []) in
    let deeds = times_append number (it.numbers ++ it.last ∷ []) (deeds_in all) in
    let numbers = times_append number it.numbers (numbers_in all) in
    omega (arith, rest, none, one, own, deeds, numbers)

pub each_once : (bound last : ℕ) (first : Drawn) (others : List Drawn) → AllByRecursion (IsDrawnTo bound) (first ∷ others)
    → HasEachBelow (last + 1) (deeds_in (first ∷ others) ++ last ∷ []) → HasEachBelow bound (numbers_in (first ∷ others))
each_once bound last first others each all number =
    let end = first.last in
    let drawn = all end in
    let whole = times_append end (deeds_in (first ∷ others)) (last ∷ []) in
    let front = times_append end (first.numbers ++ end ∷ []) (deeds_in others) in
    let own = times_append end first.numbers (end ∷ []) in
    let one = times_one end end in
    let same : same_as end end ≡ 1 = same_of end end true (eq-eqb end end refl) in
    let inside : end < last + 1 = below_once (last + 1) end (omega (arith, drawn, whole, front, own, one, same)) in
    let past = each.0.past in
    elim (cases_lt number bound) [
      | inl less ↦ (
          let equal = same_times bound number (first ∷ others) less each in
          let total = all number in
          let both = times_append number (deeds_in (first ∷ others)) (last ∷ []) in
          let alone = times_one number last in
          let none = other_of last number (λ it. absurd (omega (arith, less, past, inside, it))) in
          let once = once_is (last + 1) number (omega (arith, less, past, inside)) in
          let told = once_is bound number less in
          omega (arith, equal, total, both, alone, none, once, told))
      | inr most ↦ (
          let none = numbers_none bound number (first ∷ others) most each in
          let told = once_not bound number most in
          omega (arith, none, told))
    ]
