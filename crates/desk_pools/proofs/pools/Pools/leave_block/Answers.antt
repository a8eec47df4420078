use Rattle.std.proofs.Common.{◌≡◌, ℕ, List, [], ◌∷◌, ◌++◌, sym, ap, subst}
use Rattle.store_history.specs.declared.places.TheConstants.{POOL_BLOCKS}
use Rattle.hook_law.specs.Standing.{IsIn}
use Rattle.pin_store.specs.Calls.{IsUnnamed}
use Rattle.root_pool_laws.specs.Blocks.{IsLeft}
use Rattle.root_pool_laws.proofs.Apart.{in_left}
use Rattle.desk_pools.specs.Pools.{gone_roots, IsFreeAt, IsLeftAt}
use Rattle.desk_pools.proofs.Steps.{pool_took, taken_is, pool_left, blocks_now, actions_now}
use Rattle.desk_pools.proofs.pools.Pools.leave_block.Goals as goal

pub returns-clause-pools : goal.returns-clause-pools
returns-clause-pools c = λ h b p small left apart. let old = c.args.self.now in let now = c.leave.new.self in
    blocks_now old h b p now (pool_left POOL_BLOCKS (IsUnnamed b h) (IsLeft (gone_roots old) h) old.blocks now c.args.block p.blocks c.leave.ensures.free c.leave.ensures.left small left apart)
