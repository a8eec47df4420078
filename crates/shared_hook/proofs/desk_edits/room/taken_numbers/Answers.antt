use Rattle.std.proofs.Common.{sym, ap, subst}
use Rattle.store_history.specs.declared.places.TheConstants.{ROWS, ROW_BUCKETS, BUCKET_ROOTS, POOL_BLOCKS}
use Rattle.pin_store.specs.Calls.{IsUnnamed}
use Rattle.desk_pools.specs.OfNumbers.Numbers.{PoolNumbers}
use Rattle.desk_pools.specs.declared.pools.Pools.{Pools}
use Rattle.desk_pools.specs.Pools.{IsFreeAt}
use Rattle.desk_pools.specs.Steps.{AreTaken}
use Rattle.shared_hook.proofs.desk_edits.room.taken_numbers.Goals as goal

pub returns-clause-pools : goal.returns-clause-pools
returns-clause-pools c = λ h b p. c.take_rows.ensures.pools h b (c.take_blocks.ensures.pools h b p)

pub returns-clause-blocks : goal.returns-clause-blocks
returns-clause-blocks c = λ h b p. subst (AreTaken POOL_BLOCKS (IsUnnamed b h) c.take_rows.new.self.blocks) (sym c.from_vec.ensures)
    (subst (λ (q : PoolNumbers). AreTaken POOL_BLOCKS (IsUnnamed b h) q c.take_blocks.new.into.items) (sym (ap (λ (z : Pools). z.blocks) c.take_rows.ensures.others)) (c.take_blocks.ensures.taken h b p))

pub returns-clause-rows : goal.returns-clause-rows
returns-clause-rows c = λ h b p. subst (AreTaken ROWS (IsFreeAt h b BUCKET_ROOTS ROW_BUCKETS) c.take_rows.new.self.rows) (sym c.from_vec-2.ensures) (c.take_rows.ensures.taken h b (c.take_blocks.ensures.pools h b p))
