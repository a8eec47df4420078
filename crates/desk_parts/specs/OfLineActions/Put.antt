-- The actions that a filter's line makes, put into the store before the commit of the edit (this project's
-- own). `h` is all commits before, k is these with those of the actions, b is the base.
use Rattle.std.specs.Prelude.{◌≡◌, ◌≢◌, ℕ, ◌+◌, ◌<◌, ◌≤◌, List, ◌++◌, length, slice_get, Some, None}
use Rattle.store_history.specs.declared.history.Commit.{Commit}
use Rattle.store_history.specs.History.{root_of, edits_of}
use Rattle.filter_state.specs.declared.edit.Edit.{Edit}
use Rattle.filter_state.specs.declared.edit.Edit.TheVariants as edits
use Rattle.store_history.specs.declared.places.TheConstants.{ACTION_SLOTS}
use Rattle.hook_law.specs.Places.{action_root}
use Rattle.hook_law.specs.Standing.{IsSlotOf}
use Rattle.hook_law.specs.Keeping.{IsAtRest}
use Rattle.hook_law.specs.Numbered.{PutsActions}
use Rattle.hook_store_law.specs.Stated.{hook_meaning}
use Rattle.hook_store_law.specs.Blocks.{hook_codec}
use Rattle.hook_store_law.specs.Kept.{KeepsHook}
use Rattle.desk_actions.specs.Places.{Placed, slot_of, block_of, IsAlone}

-- the edit has a filter's line
abbrev pub IsOfLine : Edit → Type 0
IsOfLine (edits.FilterAdd line) = Unit {0}
IsOfLine (edits.FilterReplace line) = Unit {0}
IsOfLine edit = ⊥

-- a commit without a number, to the root of a slot of actions, with the stamp of the edit that comes after
-- so many
pub record IsPut (point : ℕ) (c : Commit Edit) : Type 0 where
  pub plain : c.edit ≡ None
  pub slot : ℕ
  pub small : slot < ACTION_SLOTS
  pub root : c.root ≡ action_root slot
  pub stamp : c.named.stamp ≡ point + 1

-- the root is that of no slot of actions
abbrev pub IsNoSlot : ℕ → Type 0
IsNoSlot root = (slot : ℕ) → slot < ACTION_SLOTS → root ≢ action_root slot

abbrev pub HaveNoSlots : List (Commit Edit) → Type 0
HaveNoSlots commits = (place : ℕ) (c : Commit Edit) → slice_get commits place ≡ Some c → IsNoSlot c.root

-- THE ACTIONS OF THE EDIT ARE PUT: the commits go on with those of actions alone, the law and the sizes with
-- them, no edit has come, no other root has another name, and each action that the edit makes is there as the
-- law of its commit asks
pub record ArePut (h k : List (Commit Edit)) (b point : ℕ) (y : Edit) : Type 0 where
  pub more : List (Commit Edit)
  pub seen : k ≡ h ++ more
  pub each : (place : ℕ) (c : Commit Edit) → slice_get more place ≡ Some c → IsPut point c
  pub low : b ≤ length k
  pub keeps : KeepsHook k b
  pub rest : IsAtRest hook_meaning hook_codec k
  pub journal : edits_of k ≡ edits_of h
  pub roots : (root : ℕ) → IsNoSlot root → root_of k root ≡ root_of h root
  pub early : (root : ℕ) → (root_of k root).stamp ≤ point + 1
  pub made : PutsActions hook_meaning hook_codec b k y

-- the action has its slot by commits, and its record in one block
pub record IsPlaced (placed : Placed) (h : List (Commit Edit)) (action : ℕ) : Type 0 where
  pub slot : IsSlotOf hook_codec h action (slot_of placed action)
  pub block : IsAlone h (slot_of placed action) (block_of placed (slot_of placed action))
