-- What a mask that is gone leaves (this project's own). `h` is all commits.
use Rattle.std.specs.Prelude.{◌≡◌, ℕ, ◌<◌, List}
use Rattle.store_history.specs.declared.history.Commit.{Commit}
use Rattle.filter_state.specs.declared.edit.Edit.{Edit}
use Rattle.store_history.specs.declared.places.TheConstants.{MASK_SLOTS, MASK_ROOTS, ROWS, ROW_BUCKETS}
use Rattle.store_history.specs.declared.places.TheConstants.{BUCKET_ROOTS, POOL_BLOCKS}
use Rattle.hook_law.specs.Standing.{IsIn}
use Rattle.root_pool_laws.specs.Blocks.{IsLeft}
use Rattle.desk_pools.specs.declared.pools.Pools.{Pools}
use Rattle.desk_pools.specs.Pools.{gone_roots, IsLeftAt}
use Rattle.desk_pools.specs.Steps.{MayLeave}

-- its slot and its rows may leave, and once they are among those that left, its blocks may
pub record MayAllLeave (pools : Pools) (h : List (Commit Edit)) (slot : ℕ)
    (rows blocks : List ℕ) : Type 0 where
  pub small : slot < MASK_SLOTS
  pub slot_left : IsLeftAt h MASK_ROOTS 1 slot
  pub rows_leave : MayLeave ROWS (IsLeftAt h BUCKET_ROOTS ROW_BUCKETS) pools.rows rows
  pub blocks_leave : (later : Pools) → later.blocks ≡ pools.blocks → IsIn slot later.masks.left
      → ((row : ℕ) → IsIn row rows → IsIn row later.rows.left)
      → MayLeave POOL_BLOCKS (IsLeft (gone_roots later) h) later.blocks blocks
