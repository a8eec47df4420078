-- A stored action (this project's own).
use Rattle.act_registry.specs.declared.limits.TheConstants.{MADE_MAX}
use Rattle.std.specs.Prelude.{◌≡◌, ℕ, ◌≤◌, List, ◌∷◌, Option}
use Rattle.block_codec.specs.declared.action.StoredAction.{StoredAction}
use Rattle.block_codec.specs.Blocks.{both, block, IsLink}
use Rattle.block_codec.specs.Parameters.{params_words, AreStorable, FitParams}

-- the kind of block, serial and index, and the parameters
abbrev pub action_words : StoredAction → List ℕ
action_words stored = 4 ∷ both stored.serial stored.index ∷ params_words stored.params

-- the limits of an action's numbers
pub record IsStorableAction (stored : StoredAction) : Type 0 where
  pub serial : (1 ≤ stored.serial) × (stored.serial ≤ MADE_MAX)
  pub index : (1 ≤ stored.index) × (stored.index ≤ 4294967295)
  pub params : AreStorable stored.params

-- these are the words of that action, with that link
pub record IsActionBlock (words : List ℕ) (it : StoredAction × Option ℕ) : Type 0 where
  pub storable : IsStorableAction it.0
  pub fit : FitParams it.0.params
  pub link : IsLink it.1
  pub words_are : words ≡ block (action_words it.0) it.1
