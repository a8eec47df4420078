-- What stood in a place over time (this project's own).
use Rattle.std.specs.Prelude.{ℕ, ◌≤◌, nat_le, List, [], ◌∷◌, Option, Some, None, if◌then◌else◌}
use Rattle.std.specs.List.{All}
use Rattle.std.specs.List.Sorted.{IsNonDecreasingBy}
use Rattle.slot_pasts.specs.declared.past.Change.{Change}

-- the changes stand by rising point
abbrev pub AreRising : {V : Type 0} → List (Change V) → Type 0
AreRising changes = IsNonDecreasingBy (λ (change : Change _). change.from) changes

-- no change is later than that point
abbrev pub UpTo : {V : Type 0} → ℕ → List (Change V) → Type 0
UpTo point changes = All (λ (change : Change _). change.from ≤ point) changes

-- the later of two, where there is one
abbrev pub or_earlier : {V : Type 0} → Option V → Option V → Option V
or_earlier (Some value) earlier = Some value
or_earlier None earlier = earlier

-- WHAT STOOD THERE AT A POINT: what the last change up to it put there
abbrev pub value_at : {V : Type 0} → ℕ → List (Change V) → Option V
value_at point [] = None
value_at point (change ∷ changes) =
    or_earlier (value_at point changes) (if nat_le change.from point then Some change.value else None)

-- nothing stood there before the first change, nor where a change took away
abbrev pub stood : {V : Type 0} → Option (Option V) → Option V
stood None = None
stood (Some value) = value
