-- What several threads drew, each up to its first number past a bound; and sums over numbers (this project's
-- own).
use Rattle.std.proofs.Common.{zero, suc}
use Rattle.std.specs.Prelude.{ℕ, ◌+◌, ◌≤◌, ◌<◌, List, [], ◌∷◌, ◌++◌}
use Rattle.std.specs.List.{flat_map, AllByRecursion}

-- the numbers of one thread, and the last, at which it stopped
pub record Drawn : Type 0 where
  pub numbers : List ℕ
  pub last : ℕ

-- each number is below the bound, and the last isn't
pub record IsDrawnTo (bound : ℕ) (it : Drawn) : Type 0 where
  pub below : AllByRecursion (λ (number : ℕ). number < bound) it.numbers
  pub past : bound ≤ it.last

-- of all threads: the numbers alone, and with the last ones
abbrev pub numbers_in : List Drawn → List ℕ
numbers_in all = flat_map (λ (it : Drawn). it.numbers) all

abbrev pub deeds_in : List Drawn → List ℕ
deeds_in all = flat_map (λ (it : Drawn). it.numbers ++ it.last ∷ []) all

-- over the numbers below a bound
abbrev pub sum_to : (ℕ → ℕ) → ℕ → ℕ
sum_to weight zero = 0
sum_to weight (suc bound) = sum_to weight bound + weight bound
