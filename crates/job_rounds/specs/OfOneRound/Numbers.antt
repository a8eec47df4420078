-- Numbers in a row (this project's own).
use Rattle.std.specs.Prelude.{◌≡◌, ℕ, ◌+◌, List, [], ◌∷◌, length}

-- these are the numbers from one on, in order
abbrev pub AreFrom : ℕ → List ℕ → Type 0
AreFrom from [] = Unit {0}
AreFrom from (number ∷ numbers) = (number ≡ from) × AreFrom (from + 1) numbers

-- these are the numbers from 1 to that one, each once and in order
abbrev pub AreAll : ℕ → List ℕ → Type 0
AreAll most numbers = (length numbers ≡ most) × AreFrom 1 numbers
