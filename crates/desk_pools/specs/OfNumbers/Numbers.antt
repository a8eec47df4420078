-- The numbers of a pool that aren't given (this project's own).
use Rattle.std.specs.Prelude.{ℕ, List}

-- of so many numbers, those that may be given, and those that came back and may not be given yet
pub record PoolNumbers : Type 0 where
  pub size : ℕ
  pub free : List ℕ
  pub left : List ℕ
