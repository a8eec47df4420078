use Rattle.std.proofs.Common.{◌≡◌, ℕ, List, [], ◌∷◌, ◌++◌, sym, ap, subst}
use Rattle.store_history.specs.declared.places.TheConstants.{MASK_SLOTS, MASK_ROOTS}
use Rattle.hook_law.specs.Standing.{IsIn}
use Rattle.pin_store.specs.Calls.{IsUnnamed}
use Rattle.root_pool_laws.specs.Blocks.{IsLeft}
use Rattle.root_pool_laws.proofs.Apart.{in_left}
use Rattle.desk_pools.specs.Pools.{gone_roots, IsFreeAt, IsLeftAt}
use Rattle.desk_pools.proofs.Steps.{pool_took, taken_is, pool_left, blocks_now, masks_now, rows_now}
use Rattle.desk_pools.proofs.Several.{pool_took_some, taken_are, pool_left_some}
use Rattle.desk_pools.proofs.pools.Pools.leave_mask.Goals as goal

pub returns-clause-pools : goal.returns-clause-pools
returns-clause-pools c = λ h b p small left apart. let old = c.args.self.now in let now = c.leave.new.self in
    masks_now old h b p now (λ x at. subst (IsIn x) (sym c.leave.ensures.left) (in_left old.masks.left (c.args.slot ∷ []) x at))
    (pool_left MASK_SLOTS (IsFreeAt h b MASK_ROOTS 1) (IsLeftAt h MASK_ROOTS 1) old.masks now c.args.slot p.masks c.leave.ensures.free c.leave.ensures.left small left apart)
