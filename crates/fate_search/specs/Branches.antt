-- The points at which a question is given an answer for the first time (this project's own).
use Rattle.std.specs.Prelude.{◌≡◌, ℕ, zero, suc, ◌+◌, ◌-◌, ◌<◌, ◌≤◌, Bool, true, false, ◌&&◌, not, List, [], ◌∷◌}
use Rattle.std.specs.Prelude.{Option, Some, None, is_some}
use Rattle.std.specs.List.{list_any, range_with_len}
use Rattle.walk_rules.specs.Questions.{Answer}
use Rattle.walk_fate_laws.specs.Firsts.{First}
use Rattle.walk_fate_laws.specs.Walks.{same_answer}

-- both are answers, and one
abbrev pub same_told : Option Answer → Option Answer → Bool
same_told (Some one) (Some other) = same_answer one other
same_told one other = false

-- the answer at a point is given from some point on, before that one
abbrev pub is_given : (ℕ → Option Answer) → ℕ → ℕ → Bool
is_given told low point =
    list_any (λ (earlier : ℕ). same_told (told point) (told earlier)) (range_with_len low (point - low))

-- A BRANCH POINT from a bound on: it has an answer that no point before it gave
abbrev pub is_first : (ℕ → Option Answer) → ℕ → ℕ → Bool
is_first told low point = is_some (told point) && not (is_given told low point)

-- THE FIRST OF THESE from a point on, up to a ceiling; none, where there is none
abbrev pub IsNextFirst : (ℕ → Option Answer) → ℕ → ℕ → ℕ → Option ℕ → Type 0
IsNextFirst told low from ceiling None =
    (point : ℕ) → from ≤ point → point ≤ ceiling → is_first told low point ≡ false
IsNextFirst told low from ceiling (Some found) = (from ≤ found) × (found ≤ ceiling)
    × (is_first told low found ≡ true)
    × ((point : ℕ) → from ≤ point → point < found → is_first told low point ≡ false)

-- all of these among so many points, each with its answer
abbrev pub pick : Bool → ℕ → Option Answer → List (First ℕ Answer) → List (First ℕ Answer)
pick true point (Some answer) rest = record { item = point; key = answer } ∷ rest
pick first point told rest = rest

abbrev pub picked : (ℕ → Option Answer) → ℕ → ℕ → ℕ → List (First ℕ Answer)
picked told low from zero = []
picked told low from (suc count) =
    pick (is_first told low from) from (told from) (picked told low (suc from) count)

abbrev pub picked_to : (ℕ → Option Answer) → ℕ → ℕ → ℕ → List (First ℕ Answer)
picked_to told low from ceiling = picked told low from ((ceiling + 1) - from)
