use Rattle.std.proofs.Common.{◌≡◌, ℕ, List, [], ◌∷◌, ◌++◌, sym, ap, subst}
use Rattle.store_history.specs.declared.places.TheConstants.{POOL_BLOCKS}
use Rattle.hook_law.specs.Standing.{IsIn}
use Rattle.pin_store.specs.Calls.{IsUnnamed}
use Rattle.root_pool_laws.specs.Blocks.{IsLeft}
use Rattle.root_pool_laws.proofs.Apart.{in_left}
use Rattle.desk_pools.specs.Pools.{gone_roots, IsFreeAt, IsLeftAt}
use Rattle.desk_pools.proofs.Steps.{pool_took, taken_is, pool_left, blocks_now, masks_now, rows_now}
use Rattle.desk_pools.proofs.Several.{pool_took_some, taken_are, pool_left_some}
use Rattle.desk_pools.proofs.pools.Pools.leave_blocks.Goals as goal

pub returns-clause-pools : goal.returns-clause-pools
returns-clause-pools c = λ h b p m. let old = c.args.self.now in let now = c.leave_some.new.self in
    blocks_now old h b p now (pool_left_some POOL_BLOCKS (IsUnnamed b h) (IsLeft (gone_roots old) h) old.blocks now c.args.blocks.now p.blocks c.leave_some.ensures.free c.leave_some.ensures.left m)
