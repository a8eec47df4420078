-- The first of each sort in a list (this project's own).
use Rattle.std.specs.Prelude.{◌≡◌, ◌⊎◌, Bool, List, [], ◌∷◌, Option, Some, None, if◌then◌else◌}
use Rattle.std.specs.List.{list_any}

abbrev pub IsAmong : {X : Type 0} → X → List X → Type 0
IsAmong x [] = ⊥
IsAmong x (y ∷ ys) = (x ≡ y) ⊎ IsAmong x ys

-- an element, and its key
pub record First (X K : Type 0) : Type 0 where
  pub item : X
  pub key : K

abbrev pub first_by : {X K : Type 0} → (K → K → Bool) → List K → X → Option K → (List K → List (First X K))
    → List (First X K)
first_by same seen x None more = more seen
first_by same seen x (Some key) more =
    if list_any (same key) seen then more seen else record { item = x; key = key } ∷ more (key ∷ seen)

-- THE FIRST OF EACH KEY: the elements with a key that is none of these, nor that of an earlier element
abbrev pub firsts : {X K : Type 0} → (K → K → Bool) → (X → Option K) → List K → List X → List (First X K)
firsts same key seen [] = []
firsts same key seen (x ∷ xs) = first_by same seen x (key x) (λ now. firsts same key now xs)
