-- What is free, what left and what is in use add up (this project's own).
use Rattle.std.specs.Prelude.{◌≡◌, ℕ, ◌+◌, length, if◌then◌else◌}
use Rattle.tc_base.specs.declared.hook.Hook.TheVariants as hooks
use Rattle.filter_state.specs.States.{State}
use Rattle.desk_needs.specs.declared.pool.Pool.{Pool}
use Rattle.desk_needs.specs.declared.pool.Pool.TheVariants as pools
use Rattle.desk_needs.specs.Live.{live_of, size_of_pool}
use Rattle.desk_pools.specs.declared.pools.Pools.{Pools}
use Rattle.desk_pools.specs.declared.pools.IdlePlace.{IdlePlace}

-- one of a hook's two places is active, and the other is free, or left
abbrev pub free_place : IdlePlace → ℕ
free_place idle = if idle.is_free then 1 else 0

abbrev pub left_place : IdlePlace → ℕ
left_place idle = if idle.is_free then 0 else 1

-- how many of a pool are free
abbrev pub free_of : Pools → Pool → ℕ
free_of p pools.Blocks = length p.blocks.free
free_of p pools.Rows = length p.rows.free
free_of p pools.MaskRoots = length p.masks.free
free_of p pools.ActionRoots = length p.actions.free
free_of p (pools.Head hooks.Ingress) = free_place p.ingress
free_of p (pools.Head hooks.Egress) = free_place p.egress

-- how many of a pool left, and aren't free yet
abbrev pub left_of : Pools → Pool → ℕ
left_of p pools.Blocks = length p.blocks.left
left_of p pools.Rows = length p.rows.left
left_of p pools.MaskRoots = length p.masks.left
left_of p pools.ActionRoots = length p.actions.left
left_of p (pools.Head hooks.Ingress) = left_place p.ingress
left_of p (pools.Head hooks.Egress) = left_place p.egress

-- THE SUM: what is free, what left, and what the state has in use are all that a pool has
abbrev pub AreCounted : Pools → State → Type 0
AreCounted p s = (pool : Pool) → free_of p pool + left_of p pool + live_of s pool ≡ size_of_pool pool
