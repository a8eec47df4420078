-- A visit that is made at a branch point (this project's own).
use Rattle.std.specs.Prelude.{◌≡◌, ℕ, suc, ◌≤◌, max, true, Option, Some, None}
use Rattle.walk_rules.specs.Questions.{Question, Answer}
use Rattle.point_walks.specs.Over.{Answering}
use Rattle.fate_search.specs.declared.branch_points.Branch.{Branch}
use Rattle.fate_search.specs.Branches.{is_first, IsNextFirst}

-- no lower than that point, where one is given
abbrev pub start_from : ℕ → Option ℕ → ℕ
start_from low None = low
start_from low (Some from) = max low from

-- the point that is given is a branch point; or none is
abbrev pub IsStart : (ℕ → Option Answer) → ℕ → Option ℕ → Type 0
IsStart told low None = Unit {0}
IsStart told low (Some from) = (low ≤ from) × (is_first told low from ≡ true)

-- the first branch point from there on, and the next one behind it
abbrev pub IsBranch : (ℕ → Option Answer) → ℕ → ℕ → ℕ → Option Branch → Type 0
IsBranch told low from ceiling None = IsNextFirst told low from ceiling None
IsBranch told low from ceiling (Some branch) = IsNextFirst told low from ceiling (Some branch.point)
    × IsNextFirst told low (suc branch.point) ceiling branch.next

-- a question that was answered at a branch point; or it has none
abbrev pub Took : Answering → ℕ → Option ℕ → ℕ → Question → Answer → ℕ → Option Branch → Type 0
Took answers low from ceiling question answer point None =
    IsNextFirst (λ at. answers at question) low (start_from low from) ceiling None
Took answers low from ceiling question answer point (Some branch) =
    (branch.point ≡ point) × (answers point question ≡ Some answer)
    × IsBranch (λ at. answers at question) low (start_from low from) ceiling (Some branch)
