-- The order of lists of points (this project's own).
use Rattle.std.specs.Prelude.{◌≡◌, ℕ, ◌<◌, ◌≤◌, ◌⊎◌, List, [], ◌∷◌}
use Rattle.walk_fate_laws.specs.Firsts.{IsAmong}

-- lower at the first place at which they differ
abbrev pub IsEarlier : List ℕ → List ℕ → Type 0
IsEarlier (one ∷ ones) (other ∷ others) = (one < other) ⊎ ((one ≡ other) × IsEarlier ones others)
IsEarlier ones others = ⊥

-- the same, or earlier
abbrev pub IsNoLater : List ℕ → List ℕ → Type 0
IsNoLater ones others = (ones ≡ others) ⊎ IsEarlier ones others

-- as many points, none higher than that at its place
abbrev pub AreAtMost : List ℕ → List ℕ → Type 0
AreAtMost [] [] = Unit {0}
AreAtMost (one ∷ ones) (other ∷ others) = (one ≤ other) × AreAtMost ones others
AreAtMost ones others = ⊥

-- each element stands so to all behind it
abbrev pub EachBefore : {X : Type 0} → (X → X → Type 0) → List X → Type 0
EachBefore R [] = Unit {0}
EachBefore {X = X} R (x ∷ xs) = ((y : X) → IsAmong y xs → R x y) × EachBefore R xs
