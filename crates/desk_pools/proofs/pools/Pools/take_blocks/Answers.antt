use Rattle.std.proofs.Common.{◌≡◌, ℕ, List, [], ◌∷◌, ◌++◌, sym, ap, subst}
use Rattle.store_history.specs.declared.places.TheConstants.{POOL_BLOCKS}
use Rattle.hook_law.specs.Standing.{IsIn}
use Rattle.pin_store.specs.Calls.{IsUnnamed}
use Rattle.root_pool_laws.specs.Blocks.{IsLeft}
use Rattle.root_pool_laws.proofs.Apart.{in_left}
use Rattle.desk_pools.specs.Pools.{gone_roots, IsFreeAt, IsLeftAt}
use Rattle.desk_pools.proofs.Steps.{pool_took, taken_is, pool_left, blocks_now, masks_now, rows_now}
use Rattle.desk_pools.proofs.Several.{pool_took_some, taken_are, pool_left_some}
use Rattle.desk_pools.proofs.pools.Pools.take_blocks.Goals as goal

pub returns-clause-pools : goal.returns-clause-pools
returns-clause-pools c = λ h b p. let old = c.args.self.now in let now = c.take_some.new.self in
    blocks_now old h b p now (pool_took_some POOL_BLOCKS (IsUnnamed b h) (IsLeft (gone_roots old) h) old.blocks now c.take_some.new.into.items p.blocks c.take_some.ensures.free c.take_some.ensures.left)

pub returns-clause-taken : goal.returns-clause-taken
returns-clause-taken c = λ h b p. let old = c.args.self.now in
    taken_are POOL_BLOCKS (IsUnnamed b h) (IsLeft (gone_roots old) h) old.blocks c.take_some.new.self c.take_some.new.into.items p.blocks c.take_some.ensures.free c.take_some.ensures.left
