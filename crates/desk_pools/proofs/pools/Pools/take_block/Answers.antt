use Rattle.std.proofs.Common.{◌≡◌, ℕ, List, [], ◌∷◌, ◌++◌, sym, ap, subst}
use Rattle.store_history.specs.declared.places.TheConstants.{POOL_BLOCKS}
use Rattle.hook_law.specs.Standing.{IsIn}
use Rattle.pin_store.specs.Calls.{IsUnnamed}
use Rattle.root_pool_laws.specs.Blocks.{IsLeft}
use Rattle.root_pool_laws.proofs.Apart.{in_left}
use Rattle.desk_pools.specs.Pools.{gone_roots, IsFreeAt, IsLeftAt}
use Rattle.desk_pools.proofs.Steps.{pool_took, taken_is, pool_left, blocks_now, actions_now}
use Rattle.desk_pools.proofs.pools.Pools.take_block.Goals as goal

pub returns-clause-pools : goal.returns-clause-pools
returns-clause-pools c = λ h b p. let old = c.args.self.now in let now = c.take.new.self in
    blocks_now old h b p now (pool_took POOL_BLOCKS (IsUnnamed b h) (IsLeft (gone_roots old) h) old.blocks now c.take.result p.blocks c.take.ensures.free c.take.ensures.left)

pub returns-clause-taken : goal.returns-clause-taken
returns-clause-taken c = λ h b p. let old = c.args.self.now in
    taken_is POOL_BLOCKS (IsUnnamed b h) (IsLeft (gone_roots old) h) old.blocks c.take.new.self c.take.result p.blocks c.take.ensures.free c.take.ensures.left
