-- Bounds visit by visit, and what they say of all points at once (this project's own).
use Rattle.std.specs.Prelude.{◌≡◌, ℕ, ◌≤◌, ◌<◌, true, List, [], ◌∷◌, slice_get, Some}
use Rattle.walk_fate_laws.specs.Games.{Game, raised}

-- a question, and the point at which it was answered
pub record Asked (Q : Type 0) : Type 0 where
  pub question : Q
  pub point : ℕ

-- each visit is within the bounds that those before it leave
abbrev pub AreBounded : {S Q A : Type 0} → Game S Q A → ℕ → (Q → ℕ) → List (Asked Q) → Type 0
AreBounded g ceiling low [] = Unit {0}
AreBounded g ceiling low (visit ∷ visits) = (low visit.question ≤ visit.point) × (visit.point ≤ ceiling)
    × AreBounded g ceiling (raised g low visit.question visit.point) visits

-- no visit is below its own bound or above the ceiling, and none below an earlier one that bounds it
pub record AreLawful {S Q A : Type 0} (g : Game S Q A) (ceiling : ℕ) (low : Q → ℕ)
    (visits : List (Asked Q)) : Type 0 where
  pub above : (place : ℕ) (visit : Asked Q) → slice_get visits place ≡ Some visit
      → low visit.question ≤ visit.point
  pub below : (place : ℕ) (visit : Asked Q) → slice_get visits place ≡ Some visit → visit.point ≤ ceiling
  pub never_fall : (early late : ℕ) (one other : Asked Q) → early < late → slice_get visits early ≡ Some one
      → slice_get visits late ≡ Some other → g.touches one.question other.question ≡ true
      → one.point ≤ other.point
