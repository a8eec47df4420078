-- What was taken for a mask (this project's own). `h` is all commits, and b is the base.
use Rattle.std.specs.Prelude.{ℕ, List}
use Rattle.store_history.specs.declared.history.Commit.{Commit}
use Rattle.pin_store.specs.Calls.{IsUnnamed}
use Rattle.filter_state.specs.declared.edit.Edit.{Edit}
use Rattle.store_history.specs.declared.places.TheConstants.{POOL_BLOCKS, ROWS, ROW_BUCKETS, BUCKET_ROOTS}
use Rattle.store_history.specs.declared.places.TheConstants.{MASK_SLOTS, MASK_ROOTS}
use Rattle.desk_pools.specs.declared.pools.Pools.{Pools}
use Rattle.desk_pools.specs.Pools.{IsFreeAt}
use Rattle.desk_pools.specs.Steps.{IsTaken, AreTaken}

-- a slot, blocks and rows, all free, that are in the pools no more
pub record IsMaskRoom (pools : Pools) (h : List (Commit Edit)) (b slot : ℕ)
    (blocks rows : List ℕ) : Type 0 where
  pub slot_taken : IsTaken MASK_SLOTS (IsFreeAt h b MASK_ROOTS 1) pools.masks slot
  pub blocks_taken : AreTaken POOL_BLOCKS (IsUnnamed b h) pools.blocks blocks
  pub rows_taken : AreTaken ROWS (IsFreeAt h b BUCKET_ROOTS ROW_BUCKETS) pools.rows rows
