-- The filters of one mask as a list, and what the calls make of it (this project's own).
use Rattle.std.specs.Prelude.{◌≡◌, ℕ, ◌==◌, Bool, false, not, List, [], ◌∷◌, Option, Some, None, filter, map}
use Rattle.std.specs.Prelude.{if◌then◌else◌}
use Rattle.std.specs.Str.{bytes_eq}
use Rattle.std.specs.List.{AllPairs}
use Rattle.filter_index.specs.declared.filter.Filter.{Filter}

-- the filters in the order in which they were accepted, and for how many more there is room
pub record FilterRoom : Type 0 where
  pub filters : List Filter
  pub spare : ℕ

-- the filter has that handle
abbrev pub has_handle : ℕ → Filter → Bool
has_handle handle filter = filter.handle == handle

-- the filter has those words for its key
abbrev pub has_key : List ℕ → Filter → Bool
has_key key filter = bytes_eq filter.key.words key

-- two filters of one mask differ in handle and in key
pub record StandApart (a b : Filter) : Type 0 where
  pub handles : has_handle b.handle a ≡ false
  pub keys : has_key b.key.words a ≡ false

-- no two filters have the same handle, or the same key
abbrev pub AreApart : List Filter → Type 0
AreApart filters = AllPairs StandApart filters

-- the filters without the one of that handle
abbrev pub without : ℕ → List Filter → List Filter
without handle filters = filter (λ f. not (has_handle handle f)) filters

-- the filters, where the one of that handle has other actions
abbrev pub with_actions : ℕ → List ℕ → List Filter → List Filter
with_actions handle actions filters =
    map (λ f. if has_handle handle f then record f { actions = actions } else f) filters

-- the values that are there, in order
abbrev pub those_there : {X : Type 0} → List (Option X) → List X
those_there [] = []
those_there (Some x ∷ xs) = x ∷ those_there xs
those_there (None ∷ xs) = those_there xs
