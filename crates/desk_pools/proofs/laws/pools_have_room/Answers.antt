use Rattle.store_history.specs.declared.places.TheConstants.{MASK_SLOTS, ACTION_SLOTS, ROWS, ROW_BUCKETS, MASK_ROOTS, ACTION_ROOTS, BUCKET_ROOTS, POOL_BLOCKS}
use Rattle.hook_law.specs.Standing.{IsIn}
use Rattle.pin_store.specs.Calls.{IsUnnamed}
use Rattle.root_pool_laws.specs.Blocks.{IsLeft}
use Rattle.desk_pools.specs.Pools.{gone_roots, IsFreeAt, IsLeftAt}
use Rattle.desk_pools.proofs.Several.{have_room}
use Rattle.desk_pools.proofs.laws.pools_have_room.Goals as goal

pub returns : goal.returns
returns c = record {
  blocks = λ pools h b leaving p m. have_room POOL_BLOCKS (IsUnnamed b h) (IsLeft (gone_roots pools) h) pools.blocks leaving p.blocks m;
  rows = λ pools h b leaving p m. have_room ROWS (IsFreeAt h b BUCKET_ROOTS ROW_BUCKETS) (IsLeftAt h BUCKET_ROOTS ROW_BUCKETS) pools.rows leaving p.rows m;
  masks = λ pools h b leaving p m. have_room MASK_SLOTS (IsFreeAt h b MASK_ROOTS 1) (IsLeftAt h MASK_ROOTS 1) pools.masks leaving p.masks m;
  actions = λ pools h b leaving p m. have_room ACTION_SLOTS (IsFreeAt h b ACTION_ROOTS 1) (IsLeftAt h ACTION_ROOTS 1) pools.actions leaving p.actions m;
}
