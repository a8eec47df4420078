-- Changes of which each is one (this project's own).
use Rattle.std.specs.Prelude.{◌≢◌, ℕ, suc, ◌≤◌, List}
use Rattle.slot_pasts.specs.declared.past.Change.{Change}
use Rattle.slot_pasts.specs.Pasts.{value_at, UpTo}
use Rattle.slot_pasts.specs.Next.{IsPutAt}

-- none is behind the last point, which isn't before the first; and what is put at a point isn't what stood
-- just before it
pub record AreChanges {V : Type 0} (before point : ℕ) (past : List (Change V)) : Type 0 where
  pub since : before ≤ point
  pub up_to : UpTo point past
  pub differ : (at : ℕ) → IsPutAt past (suc at) → value_at (suc at) past ≢ value_at at past
