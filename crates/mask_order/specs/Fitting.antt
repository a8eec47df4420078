-- What filters must be so that blocks can have them and read as them (this project's own).
use Rattle.std.specs.Prelude.{◌≡◌, ℕ, ◌^◌, ◌<◌, ◌≤◌, List, length, slice_get, Some, All}
use Rattle.block_codec.specs.declared.filter.StoredFilter.{StoredFilter}
use Rattle.block_codec.specs.Filters.{IsStorableFilter}

-- a block has room for the filter, and its words are read back as it
pub record FitsBlock (filter : StoredFilter) : Type 0 where
  pub storable : IsStorableFilter filter
  pub key : length filter.key.words ≡ 14
  pub few : length filter.actions ≤ 16

-- each of the filters does, there is a block for each, and the blocks can be linked to
pub record FitInto (given : List ℕ) (fs : List StoredFilter) : Type 0 where
  pub filters : All FitsBlock fs
  pub enough : length fs ≤ length given
  pub low : (place b : ℕ) → slice_get given place ≡ Some b → b < 2 ^ 32
