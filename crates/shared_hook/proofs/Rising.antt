-- The counts of pools: what tidying does to them, and where nothing left.
use Rattle.std.proofs.Common.{◌≡◌, inl, inr, ℕ, ◌≤◌, Bool, true, false, length, refl, ap, arith, length-append}
use Rattle.std.specs.Prelude.{if◌then◌else◌}
use Rattle.tc_base.specs.declared.hook.Hook.TheVariants as hooks
use Rattle.desk_pools.specs.OfNumbers.Numbers.{PoolNumbers}
use Rattle.desk_needs.specs.declared.pool.Pool.{Pool}
use Rattle.desk_needs.specs.declared.pool.Pool.TheVariants as pools
use Rattle.desk_pools.specs.declared.pools.Pools.{Pools}
use Rattle.desk_pools.specs.OfTidying.Tidied.{IsTidied, AreTidied}
use Rattle.desk_pools.specs.Pools.{IsNothingLeft}
use Rattle.shared_hook.specs.Views.{count_of, free_in, left_in}

numbers_rise : (old new : PoolNumbers) → IsTidied old new → length old.free ≤ length new.free
numbers_rise old new (size, inl same) = let e = ap (λ (p : PoolNumbers). length p.free) same in omega (arith, e)
numbers_rise old new (size, inr (more, none)) = let e = ap length more in let both = length-append old.free old.left in omega (arith, e, both)

place_rises : (old new : Bool) → (old ≡ true → new ≡ true) → (if old then 1 else 0) ≤ (if new then 1 else 0)
place_rises false new goes_on = omega arith
place_rises true new goes_on = let free = ap {B = ℕ} (λ (b : Bool). if b then 1 else 0) (goes_on refl) in omega (arith, free)

-- no pool has fewer that are free
pub free_rises : (old new : Pools) → AreTidied old new → (pool : Pool) → count_of (free_in old) pool ≤ count_of (free_in new) pool
free_rises old new t pools.Blocks = numbers_rise old.blocks new.blocks t.0
free_rises old new t pools.Rows = numbers_rise old.rows new.rows t.1
free_rises old new t pools.MaskRoots = numbers_rise old.masks new.masks t.2
free_rises old new t pools.ActionRoots = numbers_rise old.actions new.actions t.3
free_rises old new t (pools.Head hooks.Ingress) = place_rises old.ingress.is_free new.ingress.is_free t.6
free_rises old new t (pools.Head hooks.Egress) = place_rises old.egress.is_free new.egress.is_free t.7

pub none_left : (p : Pools) → IsNothingLeft p → (pool : Pool) → count_of (left_in p) pool ≡ 0
none_left p none pools.Blocks = ap length none.blocks
none_left p none pools.Rows = ap length none.rows
none_left p none pools.MaskRoots = ap length none.masks
none_left p none pools.ActionRoots = ap length none.actions
none_left p none (pools.Head hooks.Ingress) = ap {B = ℕ} (λ (b : Bool). if b then 0 else 1) none.ingress
none_left p none (pools.Head hooks.Egress) = ap {B = ℕ} (λ (b : Bool). if b then 0 else 1) none.egress
