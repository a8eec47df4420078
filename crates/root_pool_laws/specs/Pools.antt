-- Numbers of a pool that may be given, and those that left (this project's own).
use Rattle.std.specs.Prelude.{◌≡◌, ℕ, ◌<◌, List, ◌++◌, slice_get, Some, eqb}
use Rattle.std.specs.List.{IsDistinct}
use Rattle.store_history.specs.declared.history.Commit.{Commit}
use Rattle.hook_law.specs.Records.{Codec}
use Rattle.hook_law.specs.Meaning.{Meaning}
use Rattle.hook_law.specs.Standing.{Role, Stands}

-- of a pool of so many numbers: those that are free, and those that left and aren't free yet, each once
pub record IsPool (size : ℕ) (IsFree HasLeft : ℕ → Type 0) (free left : List ℕ) : Type 0 where
  pub different : IsDistinct eqb (free ++ left)
  pub small : (place x : ℕ) → slice_get (free ++ left) place ≡ Some x → x < size
  pub may_be_given : (place x : ℕ) → slice_get free place ≡ Some x → IsFree x
  pub have_left : (place x : ℕ) → slice_get left place ≡ Some x → HasLeft x

module _ {E S N P : Type 0} (K : Meaning E S N P) (R : Codec N P) where
  -- nothing stands at the root
  abbrev pub IsEmptyRoot : List (Commit E) → ℕ → Type 0
  IsEmptyRoot h r = (x : Role) → Stands K R h r x → ⊥
