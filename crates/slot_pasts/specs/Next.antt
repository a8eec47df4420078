-- When something is put next in a place (this project's own).
use Rattle.std.specs.Prelude.{◌≡◌, ◌⊎◌, ℕ, ◌<◌, ◌≤◌, List, [], ◌∷◌, Option, Some, None, IfSome}
use Rattle.slot_pasts.specs.declared.past.Change.{Change}

-- something is put there at that point
abbrev pub IsPutAt : {V : Type 0} → List (Change V) → ℕ → Type 0
IsPutAt [] point = ⊥
IsPutAt (change ∷ changes) point = (change.from ≡ point) ⊎ IsPutAt changes point

-- a point is before the next one; where there is none, each is
abbrev pub IsBefore : ℕ → Option ℕ → Type 0
IsBefore point None = Unit {0}
IsBefore point (Some next) = point < next

-- WHEN SOMETHING IS PUT NEXT: at the least point behind that one at which anything is put; none, where
-- nothing is put behind it
pub record IsNextPut {V : Type 0} (changes : List (Change V)) (point : ℕ) (next : Option ℕ) : Type 0 where
  pub behind : IfSome next (λ at. point < at)
  pub put : IfSome next (λ at. IsPutAt changes at)
  pub least : (other : ℕ) → point < other → IsBefore other next → IsPutAt changes other → ⊥

-- from one point on, before the next one, all is as at that point
abbrev pub IsSteady : {A : Type 0} → (ℕ → A) → ℕ → Option ℕ → Type 0
IsSteady at point next = (later : ℕ) → point ≤ later → IsBefore later next → at later ≡ at point
