-- A pool adds up again where so many more are in use as were taken and didn't leave.
use Rattle.std.proofs.Common.{◌≡◌, ℕ, ◌+◌, Bool, true, false, length, refl, ap, arith}
use Rattle.std.specs.Prelude.{if◌then◌else◌}
use Rattle.tc_base.specs.declared.hook.Hook.TheVariants as hooks
use Rattle.filter_state.specs.States.{State}
use Rattle.desk_pools.specs.OfNumbers.Numbers.{PoolNumbers}
use Rattle.desk_needs.specs.declared.pool.Pool.TheVariants as pools
use Rattle.desk_needs.specs.Live.{live_of, size_of_pool}
use Rattle.desk_pools.specs.declared.pools.IdlePlace.{IdlePlace}
use Rattle.desk_pools.specs.declared.pools.Pools.{Pools}
use Rattle.shared_hook.specs.OfBalance.Counts.{free_place, left_place, AreCounted}

-- before and after, so many of the pool are in use
pub record GoesOn (old new : PoolNumbers) (before after : ℕ) : Type 0 where
  pub taken : ℕ
  pub leaving : ℕ
  pub free : length old.free ≡ length new.free + taken
  pub left : length new.left ≡ length old.left + leaving
  pub even : after + leaving ≡ before + taken

pub stays : (old new : PoolNumbers) (before after : ℕ) → new ≡ old → after ≡ before → GoesOn old new before after
stays old new before after same still = record {
  taken = 0;
  leaving = 0;
  free = (let e = ap (λ (p : PoolNumbers). length p.free) same in omega (arith, e));
  left = (let e = ap (λ (p : PoolNumbers). length p.left) same in omega (arith, e));
  even = omega (arith, still);
}

adds_up : (old new : PoolNumbers) (before after size : ℕ) → GoesOn old new before after → length old.free + length old.left + before ≡ size → length new.free + length new.left + after ≡ size
adds_up old new before after size on all =
    let free = on.free in
    let left = on.left in
    let even = on.even in
    omega (arith, free, left, even, all)

-- a hook's idle place is free or left, and the other is in use
place : (idle : IdlePlace) → free_place idle + left_place idle + 1 ≡ 2
place idle = step idle.is_free
  where
    step : (b : Bool) → (if b then 1 else 0) + (if b then 0 else 1) + 1 ≡ 2
    step true = refl
    step false = refl

-- ---- all pools
pub record AllGoOn (old new : Pools) (s t : State) : Type 0 where
  pub blocks : GoesOn old.blocks new.blocks (live_of s pools.Blocks) (live_of t pools.Blocks)
  pub rows : GoesOn old.rows new.rows (live_of s pools.Rows) (live_of t pools.Rows)
  pub masks : GoesOn old.masks new.masks (live_of s pools.MaskRoots) (live_of t pools.MaskRoots)
  pub actions : GoesOn old.actions new.actions (live_of s pools.ActionRoots) (live_of t pools.ActionRoots)

pub all_add_up : (old new : Pools) (s t : State) → AllGoOn old new s t → AreCounted old s → AreCounted new t
all_add_up old new s t on all pools.Blocks = adds_up old.blocks new.blocks (live_of s pools.Blocks) (live_of t pools.Blocks) (size_of_pool pools.Blocks) on.blocks (all pools.Blocks)
all_add_up old new s t on all pools.Rows = adds_up old.rows new.rows (live_of s pools.Rows) (live_of t pools.Rows) (size_of_pool pools.Rows) on.rows (all pools.Rows)
all_add_up old new s t on all pools.MaskRoots = adds_up old.masks new.masks (live_of s pools.MaskRoots) (live_of t pools.MaskRoots) (size_of_pool pools.MaskRoots) on.masks (all pools.MaskRoots)
all_add_up old new s t on all pools.ActionRoots = adds_up old.actions new.actions (live_of s pools.ActionRoots) (live_of t pools.ActionRoots) (size_of_pool pools.ActionRoots) on.actions (all pools.ActionRoots)
all_add_up old new s t on all (pools.Head hooks.Ingress) = place new.ingress
all_add_up old new s t on all (pools.Head hooks.Egress) = place new.egress
