-- A past that was brought up to a point (this project's own).
use Rattle.std.specs.Prelude.{◌≡◌, ℕ, ◌<◌, List}
use Rattle.slot_pasts.specs.declared.past.Change.{Change}
use Rattle.slot_pasts.specs.Pasts.{value_at, UpTo}

-- it tells what it told before the point, and has no change behind the point
pub record GrowsFrom {V : Type 0} (from : ℕ) (past after : List (Change V)) : Type 0 where
  pub before : (point : ℕ) → point < from → value_at point after ≡ value_at point past
  pub up_to : UpTo from after
