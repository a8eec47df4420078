use Rattle.std.proofs.Common.{◌≡◌, ℕ, List, [], ◌∷◌, ◌++◌, sym, ap, subst}
use Rattle.store_history.specs.declared.places.TheConstants.{ACTION_SLOTS, ACTION_ROOTS}
use Rattle.hook_law.specs.Standing.{IsIn}
use Rattle.pin_store.specs.Calls.{IsUnnamed}
use Rattle.root_pool_laws.specs.Blocks.{IsLeft}
use Rattle.root_pool_laws.proofs.Apart.{in_left}
use Rattle.desk_pools.specs.Pools.{gone_roots, IsFreeAt, IsLeftAt}
use Rattle.desk_pools.proofs.Steps.{pool_took, taken_is, pool_left, blocks_now, actions_now}
use Rattle.desk_pools.proofs.pools.Pools.leave_action.Goals as goal

pub returns-clause-pools : goal.returns-clause-pools
returns-clause-pools c = λ h b p small left apart. let old = c.args.self.now in let now = c.leave.new.self in
    actions_now old h b p now (λ x at. subst (IsIn x) (sym c.leave.ensures.left) (in_left old.actions.left (c.args.slot ∷ []) x at))
    (pool_left ACTION_SLOTS (IsFreeAt h b ACTION_ROOTS 1) (IsLeftAt h ACTION_ROOTS 1) old.actions now c.args.slot p.actions c.leave.ensures.free c.leave.ensures.left small left apart)
