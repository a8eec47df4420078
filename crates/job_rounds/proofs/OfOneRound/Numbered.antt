-- Numbers in a row, one more.
use Rattle.std.proofs.Common.{◌≡◌, ℕ, ◌+◌, List, [], ◌∷◌, ◌++◌, length, sym, subst, arith}
use Rattle.job_rounds.specs.OfOneRound.Numbers.{AreFrom, AreAll}

one_numbered : (from : ℕ) (numbers : List ℕ) (number : ℕ) → AreFrom from numbers → number ≡ from + length numbers
    → AreFrom from (numbers ++ number ∷ [])
one_numbered from [] number are own = (omega (arith, own), tt)
one_numbered from (first ∷ numbers) number are own = (are.0, one_numbered (from + 1) numbers number are.1 (omega (arith, own)))

one_longer : (numbers : List ℕ) (number : ℕ) → length (numbers ++ number ∷ []) ≡ length numbers + 1
one_longer [] number = omega arith
one_longer (first ∷ numbers) number = let rest = one_longer numbers number in omega (arith, rest)

-- behind so many there is the next
pub one_begun : (many : ℕ) (numbers new : List ℕ) (number : ℕ) → AreAll many numbers → number ≡ many + 1 → new ≡ numbers ++ number ∷ []
    → AreAll (many + 1) new
one_begun many numbers new number are own is =
    let long = are.0 in
    let longer = one_longer numbers number in
    subst (AreAll (many + 1)) (sym is) (omega (arith, long, longer), one_numbered 1 numbers number are.1 (omega (arith, own, long)))
