-- Where something changes next (this project's own).
use Rattle.std.specs.Prelude.{◌≢◌, ℕ, ◌<◌, Option, IfSome}
use Rattle.slot_pasts.specs.Next.{IsSteady}

-- THE NEXT CHANGE: the first point behind that one at which something is other than there; none, where it is
-- the same at all later points
pub record IsNextChange {A : Type 0} (at : ℕ → A) (point : ℕ) (next : Option ℕ) : Type 0 where
  pub other : IfSome next (λ later. (point < later) × (at later ≢ at point))
  pub steady : IsSteady at point next
