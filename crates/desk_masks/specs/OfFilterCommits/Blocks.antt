-- What the commit of such an edit takes out of the pools, and what it takes out of a chain (this project's
-- own). `h` is all commits.
use Rattle.std.specs.Prelude.{ℕ, ◌<◌, List, eqb}
use Rattle.std.specs.List.{IsDistinct}
use Rattle.store_history.specs.declared.history.Commit.{Commit}
use Rattle.filter_state.specs.declared.edit.Edit.{Edit}
use Rattle.store_history.specs.declared.places.TheConstants.{POOL_BLOCKS}
use Rattle.hook_law.specs.Meaning.{IsLive}
use Rattle.hook_law.specs.Standing.{IsIn, IsSlotOf}
use Rattle.hook_store_law.specs.Stated.{hook_meaning}
use Rattle.hook_store_law.specs.Blocks.{hook_codec}
use Rattle.hook_store_law.specs.OfEdits.Premises.{now, next}
use Rattle.root_pool_laws.specs.Blocks.{HasBlock}
use Rattle.desk_pools.specs.declared.pools.Pools.{Pools}
use Rattle.desk_pools.specs.Pools.{ArePools}
use Rattle.desk_pools.specs.Steps.{IsInPool}

-- the pools are right, and none has the given blocks or the slot of an action that the edit makes
pub record AreTaken (pools : Pools) (h : List (Commit Edit)) (b : ℕ) (y : Edit) (given : List ℕ)
    : Type 0 where
  pub pools_are : ArePools pools h b
  pub blocks : (block : ℕ) → IsIn block given → IsInPool block pools.blocks → ⊥
  pub actions : (action slot : ℕ) → IsLive hook_meaning (next h y) action
      → (IsLive hook_meaning (now h) action → ⊥) → IsSlotOf hook_codec h action slot
      → IsInPool slot pools.actions → ⊥

-- blocks of the pool, all different, that no root names
pub record AreOut (h : List (Commit Edit)) (blocks : List ℕ) : Type 0 where
  pub different : IsDistinct eqb blocks
  pub small : (block : ℕ) → IsIn block blocks → block < POOL_BLOCKS
  pub none : (root block : ℕ) → IsIn block blocks → HasBlock h root block → ⊥
