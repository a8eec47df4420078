-- Serials that filters name (this project's own).
use Rattle.std.specs.Prelude.{ℕ, List, [], Option, Some, None}
use Rattle.std.specs.List.{flat_map}
use Rattle.filter_index.specs.declared.filter.Filter.{Filter}
use Rattle.hook_law.specs.Standing.{IsIn}

abbrev pub serials_in : List Filter → List ℕ
serials_in filters = flat_map (λ (f : Filter). f.actions) filters

abbrev pub serials_at : Option Filter → List ℕ
serials_at (Some f) = f.actions
serials_at None = []

-- two lists have the same numbers, in whatever order and however often
pub record HaveSame (xs ys : List ℕ) : Type 0 where
  pub there : (n : ℕ) → IsIn n xs → IsIn n ys
  pub back : (n : ℕ) → IsIn n ys → IsIn n xs
