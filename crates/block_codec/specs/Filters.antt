-- A stored filter (this project's own).
use Rattle.std.specs.Prelude.{◌≡◌, ℕ, ◌≤◌, List, ◌∷◌, ◌++◌, map, length, Option, All}
use Rattle.block_codec.specs.declared.filter.StoredFilter.{StoredFilter}
use Rattle.block_codec.specs.Blocks.{block, IsLink}
use Rattle.block_codec.specs.Names.{action_word, IsActionName}

-- the kind of block, the handle, how many actions there are, the key's words, and the actions
abbrev pub filter_words : StoredFilter → List ℕ
filter_words stored = 1 ∷ stored.handle ∷ length stored.actions
    ∷ (stored.key.words ++ map action_word stored.actions)

-- the limits of a filter's numbers
pub record IsStorableFilter (stored : StoredFilter) : Type 0 where
  pub handle : (1 ≤ stored.handle) × (stored.handle ≤ 4294967295)
  pub actions : All IsActionName stored.actions

-- these are the words of that filter, with that link
pub record IsFilterBlock (words : List ℕ) (it : StoredFilter × Option ℕ) : Type 0 where
  pub storable : IsStorableFilter it.0
  pub key : length it.0.key.words ≡ 14
  pub few : length it.0.actions ≤ 16
  pub link : IsLink it.1
  pub words_are : words ≡ block (filter_words it.0) it.1
