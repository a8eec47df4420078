-- The handles that a table keeps sorted beside its masks (this project's own). No contract that callers see
-- speaks of them.
use Rattle.std.specs.Prelude.{◌≡◌, ℕ, ◌+◌, ◌<◌, ◌≤◌, ◌==◌, Bool, true, false, nat_lt, List, [], ◌∷◌, length}
use Rattle.std.specs.List.{AllPairs, count_by}
use Rattle.std.specs.List.Sorted.{IsPartitionPoint}
use Rattle.filter_tables.specs.Plain.{PlainMask}

-- each number is below those behind it
abbrev pub IsRising : List ℕ → Type 0
IsRising numbers = AllPairs (λ a b. a < b) numbers

-- how often a number stands in a list
abbrev pub times : ℕ → List ℕ → ℕ
times number numbers = count_by (λ n. n == number) numbers

-- all numbers before that place, and none from it on, are below the number
abbrev pub IsPlaceFor : ℕ → List ℕ → ℕ → Type 0
IsPlaceFor number numbers at =
    (at ≤ length numbers)
    × IsPartitionPoint (λ n. nat_lt n number ≡ true) (λ n. nat_lt n number ≡ false) numbers at

-- how many filters of the masks have a handle that passes the test
abbrev pub count_in : (ℕ → Bool) → List PlainMask → ℕ
count_in test [] = 0
count_in test (m ∷ masks) = count_by (λ f. test f.handle) m.filters + count_in test masks

-- the handles are those of the filters, each once, from 1 on and rising
pub record AreHandles (masks : List PlainMask) (handles : List ℕ) : Type 0 where
  pub rising : IsRising handles
  pub from_one : times 0 handles ≡ 0
  pub same : (test : ℕ → Bool) → count_by test handles ≡ count_in test masks
