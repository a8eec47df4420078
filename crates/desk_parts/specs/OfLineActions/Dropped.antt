-- Actions that went with an edit leave the store (this project's own). `h` is all commits, b is the base.
use Rattle.std.specs.Prelude.{◌≡◌, ℕ, ◌≤◌, ◌⊎◌, List, ◌++◌, length, map, take, eqb}
use Rattle.std.specs.List.{IsDistinct}
use Rattle.store_history.specs.declared.history.Commit.{Commit}
use Rattle.act_registry.specs.declared.limits.TheConstants.{MADE_MAX}
use Rattle.filter_state.specs.declared.edit.Edit.{Edit}
use Rattle.hook_lists.specs.declared.kept.Kept.{Kept}
use Rattle.filter_lists.specs.Spells.{Spells}
use Rattle.hook_law.specs.Meaning.{IsLive}
use Rattle.hook_law.specs.Standing.{IsIn}
use Rattle.hook_law.specs.Keeping.{Keeps}
use Rattle.hook_store_law.specs.Stated.{hook_meaning}
use Rattle.hook_store_law.specs.Blocks.{hook_codec}
use Rattle.hook_store_law.specs.OfEdits.Premises.{now}
use Rattle.desk_pools.specs.declared.pools.Pools.{Pools}
use Rattle.desk_pools.specs.Pools.{ArePools}
use Rattle.desk_pools.specs.Steps.{IsInPool}
use Rattle.desk_actions.specs.Places.{Placed, slot_of, block_of, AreHere}
use Rattle.desk_parts.specs.OfLineActions.Put.{IsPlaced}

-- The lists are those of the state now, and the pools and places are right. The actions with these serials
-- were live after so many commits, the base or more, and have their places still, of which none is in a pool.
pub record MayGo (lists : Kept) (pools : Pools) (placed : Placed) (h : List (Commit Edit)) (b after : ℕ)
    (serials : List ℕ) : Type 0 where
  pub keeps : Keeps hook_meaning hook_codec h b
  pub spells : Spells lists (now h)
  pub pools_are : ArePools pools h b
  pub here : AreHere placed h
  pub late : b ≤ after
  pub made : after ≤ length h
  pub small : (action : ℕ) → IsIn action serials → action ≤ MADE_MAX
  pub live : (action : ℕ) → IsIn action serials → IsLive hook_meaning (now (take after h)) action
  pub there : (action : ℕ) → IsIn action serials → IsPlaced placed h action
  pub apart : (action : ℕ) → IsIn action serials → IsInPool (slot_of placed action) pools.actions → ⊥

-- THOSE THAT ARE LIVE NO MORE HAVE LEFT, each once, with slot and block, and nothing else has; and pools and
-- places are right
pub record AreDropped (old new : Pools) (placed left : Placed) (h : List (Commit Edit)) (b : ℕ)
    (serials : List ℕ) : Type 0 where
  pub pools_are : ArePools new h b
  pub here : AreHere left h
  pub gone : List ℕ
  pub once : IsDistinct eqb gone
  pub dead : (action : ℕ) → IsIn action gone
      → IsIn action serials × (IsLive hook_meaning (now h) action → ⊥)
  pub all : (action : ℕ) → IsIn action serials → IsLive hook_meaning (now h) action ⊎ IsIn action gone
  pub slots : new.actions.left ≡ old.actions.left ++ map (slot_of placed) gone
  pub blocks : new.blocks.left
      ≡ old.blocks.left ++ map (λ action. block_of placed (slot_of placed action)) gone
  pub free_slots : new.actions.free ≡ old.actions.free
  pub free_blocks : new.blocks.free ≡ old.blocks.free
  pub rest : new ≡ record old { blocks = new.blocks; actions = new.actions }
