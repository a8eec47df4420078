-- What turning back does, and the order in which ways come (this project's own).
use Rattle.std.specs.Prelude.{◌≡◌, ℕ, zero, suc, ◌+◌, ◌*◌, ◌<◌, List, [], ◌∷◌, ◌++◌, Option, Some, None}
use Rattle.walk_rules.specs.declared.limits.TheConstants.{VISITS_MAX}
use Rattle.fate_search.specs.declared.branch_points.Branch.{Branch}
use Rattle.fate_search.specs.Paths.{Sought, WalkWay, AreToCome, points_of}

-- where a point is told the other ways come by the branch there; else there are none
abbrev pub IsTurnedBack : Sought → List Branch → Option ℕ → List WalkWay → Type 0
IsTurnedBack s path None ways = ways ≡ []
IsTurnedBack s path (Some from) ways = AreToCome s path (Some from) ways

-- a power of a base: more than any number of so many digits
unfoldable pub weight_most : ℕ → ℕ → ℕ
weight_most base zero = 1
weight_most base (suc places) = weight_most base places * base

-- how far some points are in the order of ways, by numbers below a base: they are its digits
unfoldable pub weight : ℕ → ℕ → List ℕ → ℕ
weight base places [] = 0
weight base zero (point ∷ points) = 0
weight base (suc places) (point ∷ points) = suc point * weight_most base places + weight base places points

abbrev pub points_to : List Branch → Option ℕ → List ℕ
points_to path None = points_of path
points_to path (Some from) = points_of path ++ (from ∷ [])

abbrev pub weight_of : ℕ → List ℕ → ℕ
weight_of ceiling points = weight (ceiling + 2) VISITS_MAX points

-- the branch that is told is later than the way
abbrev pub IsHigher : ℕ → List Branch → List Branch → Option ℕ → Type 0
IsHigher ceiling path left None = Unit {0}
IsHigher ceiling path left (Some from) =
    weight_of ceiling (points_of path) < weight_of ceiling (points_to left (Some from))
