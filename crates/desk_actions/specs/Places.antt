-- Where the live actions of a hook's store stand (this project's own). `h` is all commits.
use Rattle.std.specs.Prelude.{◌≡◌, ℕ, ◌+◌, ◌<◌, ◌≤◌, List, [], ◌∷◌, length, slice_index, slice_set}
use Rattle.store_history.specs.declared.history.Commit.{Commit}
use Rattle.store_history.specs.History.{root_of}
use Rattle.act_registry.specs.declared.limits.TheConstants.{MADE_MAX}
use Rattle.store_history.specs.declared.places.TheConstants.{ACTION_SLOTS, POOL_BLOCKS}
use Rattle.filter_state.specs.declared.edit.Edit.{Edit}
use Rattle.filter_state.specs.States.{State}
use Rattle.hook_law.specs.Places.{action_root}
use Rattle.hook_law.specs.Meaning.{IsLive}
use Rattle.hook_law.specs.Standing.{IsSlotOf}
use Rattle.hook_store_law.specs.Stated.{hook_meaning}
use Rattle.hook_store_law.specs.Blocks.{hook_codec}
use Rattle.hook_store_law.specs.OfEdits.Premises.{now}

-- by the serial of an action its slot, and by the slot its block
pub record Placed : Type 0 where
  pub slots : List ℕ
  pub blocks : List ℕ

abbrev pub slot_of : Placed → ℕ → ℕ
slot_of placed action = slice_index placed.slots action

abbrev pub block_of : Placed → ℕ → ℕ
block_of placed slot = slice_index placed.blocks slot

-- the root of the slot names this block alone, one of the pool's
abbrev pub IsAlone : List (Commit Edit) → ℕ → ℕ → Type 0
IsAlone h slot block = (block < POOL_BLOCKS) × (words : List ℕ)
    × ((root_of h (action_root slot)).chain ≡ record { block = block; words = words } ∷ [])

-- each action that is live in the state has its slot by commits and its record in one block; and no commit
-- put an action that was never made there
pub record AreHereFor (placed : Placed) (h : List (Commit Edit)) (s : State) : Type 0 where
  pub long : length placed.slots ≡ MADE_MAX + 1
  pub wide : length placed.blocks ≡ ACTION_SLOTS
  pub slots : (action : ℕ) → IsLive hook_meaning s action
      → IsSlotOf hook_codec h action (slot_of placed action)
  pub blocks : (action : ℕ) → IsLive hook_meaning s action
      → IsAlone h (slot_of placed action) (block_of placed (slot_of placed action))
  pub made : (action slot : ℕ) → IsSlotOf hook_codec h action slot → action ≤ s.actions_made

-- those of the state that the commits have come to
abbrev pub AreHere : Placed → List (Commit Edit) → Type 0
AreHere placed h = AreHereFor placed h (now h)

-- an action at a slot, with its record in a block
abbrev pub put_at : Placed → ℕ → ℕ → ℕ → Placed
put_at placed action slot block = record {
  slots = slice_set placed.slots action slot;
  blocks = slice_set placed.blocks slot block;
}

-- no record at a slot
abbrev pub cleared_at : Placed → ℕ → Placed
cleared_at placed slot = record placed { blocks = slice_set placed.blocks slot POOL_BLOCKS }
