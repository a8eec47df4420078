-- Pools in the order in which they are told, and what is needed of them (this project's own).
use Rattle.std.specs.Prelude.{◌≡◌, ℕ, ◌<◌, ◌≤◌}
use Rattle.tc_base.specs.declared.hook.Hook.TheVariants as hooks
use Rattle.desk_needs.specs.declared.needs.Needs.{Needs}
use Rattle.desk_needs.specs.declared.pool.Pool.{Pool}
use Rattle.desk_needs.specs.declared.pool.Pool.TheVariants as pools
use Rattle.desk_needs.specs.Needs.{head_needed}
use Rattle.shared_hook.specs.declared.counts.PoolCounts.{PoolCounts}
use Rattle.shared_hook.specs.declared.short.Short.{Short}
use Rattle.shared_hook.specs.Views.{count_of}

-- the order of the enum
abbrev pub place_of : Pool → ℕ
place_of pools.Blocks = 0
place_of pools.Rows = 1
place_of pools.MaskRoots = 2
place_of pools.ActionRoots = 3
place_of (pools.Head hooks.Ingress) = 4
place_of (pools.Head hooks.Egress) = 5

abbrev pub need_of : Needs → Pool → ℕ
need_of needs pools.Blocks = needs.blocks
need_of needs pools.Rows = needs.rows
need_of needs pools.MaskRoots = needs.masks
need_of needs pools.ActionRoots = needs.actions
need_of needs (pools.Head hook) = head_needed needs.head hook

-- the pool has fewer free than is needed, and each pool before it has enough
pub record IsShort (free : PoolCounts) (needs : Needs) (short : Short) : Type 0 where
  pub needed : short.needed ≡ need_of needs short.pool
  pub counted : short.free ≡ count_of free short.pool
  pub few : short.free < short.needed
  pub first : (pool : Pool) → place_of pool < place_of short.pool → need_of needs pool ≤ count_of free pool
