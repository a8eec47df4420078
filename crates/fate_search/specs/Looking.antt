-- How far the ways of a packet were looked at (this project's own).
use Rattle.std.specs.Prelude.{◌≡◌, ℕ, ◌≤◌, List, ◌∷◌, ◌++◌, length, Option, Some, None}
use Rattle.walk_fate_laws.specs.declared.limits.TheConstants.{WAYS_MAX}
use Rattle.walk_fate_laws.specs.Told.{first_fates}
use Rattle.walk_fate_laws.specs.Walks.{ways_of}
use Rattle.fate_search.specs.declared.branch_points.Branch.{Branch}
use Rattle.fate_search.specs.Found.{Found, all_found}
use Rattle.fate_search.specs.Paths.{Sought, WalkWay, points_of, AreToCome, AreBehind}
use Rattle.fate_search.specs.Turned.{points_to}

abbrev pub all_ways : Sought → List WalkWay
all_ways s = ways_of s.answers s.before s.ceiling s.hook s.bytes

-- so many ways were looked at, with these fates, and the others are to come
pub record AreLooked (s : Sought) (from : Option ℕ) (path : List Branch) (ways : ℕ)
    (fates : List Found) : Type 0 where
  pub seen : List WalkWay
  pub rest : List WalkWay
  pub whole : all_ways s ≡ seen ++ rest
  pub come : AreToCome s path from rest
  pub count : length seen ≡ ways
  pub few : ways ≤ WAYS_MAX
  pub told : fates ≡ all_found (first_fates seen)

-- so many are behind: those that are left come by further branches of a path, which is longer now
pub record AreLookedAt (s : Sought) (from : Option ℕ) (old path : List Branch) (ways : ℕ)
    (fates : List Found) : Type 0 where
  pub seen : List WalkWay
  pub rest : List WalkWay
  pub more : List ℕ
  pub whole : all_ways s ≡ seen ++ rest
  pub behind : AreBehind s path rest
  pub count : length seen ≡ ways
  pub few : ways ≤ WAYS_MAX
  pub told : fates ≡ all_found (first_fates seen)
  pub longer : points_of path ≡ points_to old from ++ more

-- as many as are looked at were, and there is a further one
pub record AreMore (s : Sought) (ways : ℕ) (fates : List Found) : Type 0 where
  pub seen : List WalkWay
  pub way : WalkWay
  pub rest : List WalkWay
  pub whole : all_ways s ≡ seen ++ (way ∷ rest)
  pub count : length seen ≡ ways
  pub most : ways ≡ WAYS_MAX
  pub told : fates ≡ all_found (first_fates seen)

abbrev pub IsLook : Sought → Option ℕ → List Branch → List Branch → ℕ → List Found → Option ℕ → Type 0
IsLook s from old path ways fates None = AreMore s ways fates
IsLook s from old path ways fates (Some now) = AreLookedAt s from old path now fates
