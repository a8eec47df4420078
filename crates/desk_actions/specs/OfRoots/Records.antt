-- The record of an action in a store, and the commit that puts it there (this project's own).
use Rattle.std.specs.Prelude.{ℕ, List, [], ◌∷◌, Option, None}
use Rattle.store_history.specs.declared.history.Commit.{Commit}
use Rattle.store_history.specs.History.{numbered_edit}
use Rattle.block_codec.specs.declared.action.StoredAction.{StoredAction}
use Rattle.block_codec.specs.Blocks.{block}
use Rattle.block_codec.specs.Actions.{action_words}
use Rattle.hook_law.specs.Places.{action_root}

-- the words of an action's block, which is linked to no other
abbrev pub action_block : StoredAction → List ℕ
action_block action = block (action_words action) None

-- THE COMMIT OF AN ACTION: the root of the slot names the action's record in that block, with the stamp; it
-- carries the edit where it has a number
abbrev pub action_commit : {E : Type 0} → ℕ → ℕ → StoredAction → ℕ → Option ℕ → E → Commit E
action_commit slot at action stamp number edit = record {
  root = action_root slot;
  named = record { chain = record { block = at; words = action_block action } ∷ []; stamp = stamp };
  edit = numbered_edit number edit;
}
