-- What of a hook's store may be given again (this project's own). `h` is all commits, b is the base.
use Rattle.std.specs.Prelude.{◌≡◌, ℕ, ◌+◌, ◌*◌, ◌<◌, ◌≤◌, List, [], ◌++◌, length, true}
use Rattle.std.specs.List.{range_with_len, flat_map}
use Rattle.tc_base.specs.declared.hook.Hook.{Hook}
use Rattle.tc_base.specs.declared.hook.Hook.TheVariants.{Ingress, Egress}
use Rattle.store_history.specs.declared.history.Commit.{Commit}
use Rattle.pin_store.specs.Calls.{IsUnnamed}
use Rattle.filter_state.specs.declared.edit.Edit.{Edit}
use Rattle.store_history.specs.declared.places.TheConstants.{MASK_SLOTS, ACTION_SLOTS, ROWS, ROW_BUCKETS}
use Rattle.block_codec.specs.declared.places.TheConstants.{TABLES}
use Rattle.store_history.specs.declared.places.TheConstants.{MASK_ROOTS, ACTION_ROOTS, BUCKET_ROOTS}
use Rattle.store_history.specs.declared.places.TheConstants.{POOL_BLOCKS}
use Rattle.hook_law.specs.Standing.{IsUnused}
use Rattle.hook_store_law.specs.Stated.{hook_meaning}
use Rattle.hook_store_law.specs.Blocks.{hook_codec}
use Rattle.miniq_pair.specs.Heads.{head_root}
use Rattle.miniq_pair.specs.Pairs.{first_block_of}
use Rattle.root_pool_laws.specs.Pools.{IsPool, IsEmptyRoot}
use Rattle.root_pool_laws.specs.Blocks.{HasBlock, HaveOneRoot, IsLeft}
use Rattle.desk_pools.specs.declared.pools.IdlePlace.{IdlePlace}
use Rattle.desk_pools.specs.declared.pools.Pools.{Pools}

-- the roots of some numbers: so many each, one number's behind the other's
abbrev pub roots_of : ℕ → ℕ → List ℕ → List ℕ
roots_of first width numbers = flat_map (λ number. range_with_len (first + width * number) width) numbers

-- those of all mask slots, action slots and rows that left
abbrev pub gone_roots : Pools → List ℕ
gone_roots pools = (roots_of MASK_ROOTS 1 pools.masks.left ++ roots_of ACTION_ROOTS 1 pools.actions.left)
    ++ roots_of BUCKET_ROOTS ROW_BUCKETS pools.rows.left

-- a number is free where all its roots are unused, and has left where they are empty
abbrev pub IsFreeAt : List (Commit Edit) → ℕ → ℕ → ℕ → ℕ → Type 0
IsFreeAt h b first width number = (j : ℕ) → j < width
    → IsUnused hook_meaning hook_codec b h (first + width * number + j)

abbrev pub IsLeftAt : List (Commit Edit) → ℕ → ℕ → ℕ → Type 0
IsLeftAt h first width number = (j : ℕ) → j < width
    → IsEmptyRoot hook_meaning hook_codec h (first + width * number + j)

-- the place of a hook that isn't active: no root has a block of it, and where it is free none had one since
-- the base
pub record IsIdle (h : List (Commit Edit)) (b : ℕ) (hook : Hook) (idle : IdlePlace) : Type 0 where
  pub within : idle.place ≤ 1
  pub none : (at : ℕ) → at < TABLES → (r : ℕ) → HasBlock h r (first_block_of hook idle.place + at) → ⊥
  pub free : idle.is_free ≡ true → (at : ℕ) → at < TABLES
      → IsUnnamed b h (first_block_of hook idle.place + at)

-- the block is of one of the two places of a hook's tables
pub record IsHeadBlock (hook : Hook) (block : ℕ) : Type 0 where
  pub above : first_block_of hook 0 ≤ block
  pub below : block < first_block_of hook 0 + 2 * TABLES

-- a block outside the pool is a hook's, and its head's root alone has it
abbrev pub HaveOwnHeads : List (Commit Edit) → Type 0
HaveOwnHeads h = (r block : ℕ) → POOL_BLOCKS ≤ block → HasBlock h r block
    → (hook : Hook) × (r ≡ head_root hook) × IsHeadBlock hook block

-- THE POOLS, as facts over the commits and the base
pub record ArePools (pools : Pools) (h : List (Commit Edit)) (b : ℕ) : Type 0 where
  pub blocks : IsPool POOL_BLOCKS (IsUnnamed b h) (IsLeft (gone_roots pools) h) pools.blocks.free
      pools.blocks.left
  pub rows : IsPool ROWS (IsFreeAt h b BUCKET_ROOTS ROW_BUCKETS) (IsLeftAt h BUCKET_ROOTS ROW_BUCKETS)
      pools.rows.free pools.rows.left
  pub masks : IsPool MASK_SLOTS (IsFreeAt h b MASK_ROOTS 1) (IsLeftAt h MASK_ROOTS 1) pools.masks.free
      pools.masks.left
  pub actions : IsPool ACTION_SLOTS (IsFreeAt h b ACTION_ROOTS 1) (IsLeftAt h ACTION_ROOTS 1)
      pools.actions.free pools.actions.left
  pub ingress : IsIdle h b Ingress pools.ingress
  pub egress : IsIdle h b Egress pools.egress
  pub one_root : HaveOneRoot h
  pub heads : HaveOwnHeads h

-- as many are free as there are
pub record AreAllFree (pools : Pools) : Type 0 where
  pub blocks : length pools.blocks.free ≡ POOL_BLOCKS
  pub rows : length pools.rows.free ≡ ROWS
  pub masks : length pools.masks.free ≡ MASK_SLOTS
  pub actions : length pools.actions.free ≡ ACTION_SLOTS

-- nothing has left that isn't free
pub record IsNothingLeft (pools : Pools) : Type 0 where
  pub blocks : pools.blocks.left ≡ []
  pub rows : pools.rows.left ≡ []
  pub masks : pools.masks.left ≡ []
  pub actions : pools.actions.left ≡ []
  pub ingress : pools.ingress.is_free ≡ true
  pub egress : pools.egress.is_free ≡ true
