-- Places in a list, counted from 0 (this project's own).
use Rattle.std.specs.Prelude.{ℕ, zero, suc, Bool, List, [], ◌∷◌, Option, Some, None, option_map}
use Rattle.std.specs.Prelude.{if◌then◌else◌}

-- the element at a place
abbrev pub item_at : {X : Type 0} → List X → ℕ → Option X
item_at [] place = None
item_at (x ∷ xs) zero = Some x
item_at (x ∷ xs) (suc place) = item_at xs place

-- the first place whose element passes a test
abbrev pub place_where : {X : Type 0} → (X → Bool) → List X → Option ℕ
place_where test [] = None
place_where test (x ∷ xs) = if test x then Some 0 else option_map suc (place_where test xs)

-- the list with the element at a place changed
abbrev pub change_at : {X : Type 0} → ℕ → (X → X) → List X → List X
change_at place change [] = []
change_at zero change (x ∷ xs) = change x ∷ xs
change_at (suc place) change (x ∷ xs) = x ∷ change_at place change xs

-- the list without the element at a place
abbrev pub without_at : {X : Type 0} → ℕ → List X → List X
without_at place [] = []
without_at zero (x ∷ xs) = xs
without_at (suc place) (x ∷ xs) = x ∷ without_at place xs
