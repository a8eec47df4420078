-- What a commit may do to what is in the pools (this project's own). `h` is all commits before it, and b is
-- the base.
use Rattle.std.specs.Prelude.{ℕ, ◌-◌, ◌<◌, ◌⊎◌, List, [], ◌∷◌, ◌++◌, false, eqb}
use Rattle.std.specs.List.{IsDistinct}
use Rattle.tc_base.specs.declared.hook.Hook.{Hook}
use Rattle.tc_base.specs.declared.hook.Hook.TheVariants.{Ingress, Egress}
use Rattle.store_history.specs.declared.history.Commit.{Commit}
use Rattle.pin_store.specs.Calls.{IsUnnamed}
use Rattle.filter_state.specs.declared.edit.Edit.{Edit}
use Rattle.store_history.specs.declared.places.TheConstants.{POOL_BLOCKS}
use Rattle.hook_law.specs.Places.{row_buckets, mask_root, action_root, bucket_root}
use Rattle.hook_law.specs.Standing.{Role, Stands, IsIn}
use Rattle.hook_store_law.specs.Stated.{hook_meaning}
use Rattle.hook_store_law.specs.Blocks.{hook_codec}
use Rattle.desk_pools.specs.OfNumbers.Numbers.{PoolNumbers}
use Rattle.root_pool_laws.specs.Blocks.{Spends}
use Rattle.desk_pools.specs.declared.pools.IdlePlace.{IdlePlace}
use Rattle.desk_pools.specs.declared.pools.Pools.{Pools}

-- the number is in the pool: free, or it left
abbrev pub IsInPool : ℕ → PoolNumbers → Type 0
IsInPool x pool = IsIn x pool.free ⊎ IsIn x pool.left

-- what is known of a number that was taken out of a pool of so many
pub record IsTaken (size : ℕ) (IsFree : ℕ → Type 0) (pool : PoolNumbers) (x : ℕ) : Type 0 where
  pub small : x < size
  pub free : IsFree x
  pub apart : IsInPool x pool → ⊥

-- what is known of numbers that were taken out of a pool of so many at once
pub record AreTaken (size : ℕ) (IsFree : ℕ → Type 0) (pool : PoolNumbers) (given : List ℕ) : Type 0 where
  pub different : IsDistinct eqb given
  pub each : (x : ℕ) → IsIn x given → IsTaken size IsFree pool x

-- numbers that may leave a pool of so many: all different, what is said of those that left holds of them, and
-- none is in the pool
pub record MayLeave (size : ℕ) (HasLeft : ℕ → Type 0) (pool : PoolNumbers) (leaving : List ℕ) : Type 0 where
  pub different : IsDistinct eqb leaving
  pub small : (x : ℕ) → IsIn x leaving → x < size
  pub left : (x : ℕ) → IsIn x leaving → HasLeft x
  pub apart : (x : ℕ) → IsIn x leaving → IsInPool x pool → ⊥

-- the active place of a hook becomes the idle one, and isn't free
abbrev pub turned_place : IdlePlace → IdlePlace
turned_place idle = record { place = 1 - idle.place; is_free = false }

abbrev pub turned : Hook → Pools → Pools
turned Ingress pools = record pools { ingress = turned_place pools.ingress }
turned Egress pools = record pools { egress = turned_place pools.egress }

-- nothing comes to stand at the root with the commit
abbrev pub NothingComes : List (Commit Edit) → Commit Edit → ℕ → Type 0
NothingComes h c r = (x : Role) → Stands hook_meaning hook_codec (h ++ c ∷ []) r x
    → Stands hook_meaning hook_codec h r x

-- the commit spends blocks that were taken out of the pool and that no chain has had since the base, and
-- nothing comes to stand at a root of what is in the pools
pub record LeavesPools (pools : Pools) (h : List (Commit Edit)) (b : ℕ) (c : Commit Edit)
    (given : List ℕ) : Type 0 where
  pub spends : Spends h c given
  pub free : (block : ℕ) → IsIn block given → IsUnnamed b h block
  pub small : (block : ℕ) → IsIn block given → block < POOL_BLOCKS
  pub taken : (block : ℕ) → IsIn block given → IsInPool block pools.blocks → ⊥
  pub masks : (slot : ℕ) → IsInPool slot pools.masks → NothingComes h c (mask_root slot)
  pub actions : (slot : ℕ) → IsInPool slot pools.actions → NothingComes h c (action_root slot)
  pub rows : (row place : ℕ) → IsInPool row pools.rows → place < row_buckets
      → NothingComes h c (bucket_root row place)
