-- What of each pool is in use in a state (this project's own).
use Rattle.std.specs.Prelude.{ℕ, ◌+◌, ◌/◌, List, [], ◌∷◌, ◌++◌, length, filter}
use Rattle.tc_base.specs.declared.hook.Hook.{Hook}
use Rattle.tc_base.specs.declared.hook.Hook.TheVariants as hooks
use Rattle.flow_mask.specs.Sizes.{size_of}
use Rattle.filter_state.specs.States.{Row, State}
use Rattle.filter_state.specs.Order.{of_mask}
use Rattle.filter_state.specs.Tables.{distinct, masks_of}
use Rattle.store_history.specs.declared.places.TheConstants.{POOL_BLOCKS, ROWS, ROW_BUCKETS, MASK_SLOTS}
use Rattle.store_history.specs.declared.places.TheConstants.{ACTION_SLOTS}
use Rattle.desk_needs.specs.declared.pool.Pool.{Pool}
use Rattle.desk_needs.specs.declared.pool.Pool.TheVariants as pools

-- how many there are in all
abbrev pub size_of_pool : Pool → ℕ
size_of_pool pools.Blocks = POOL_BLOCKS
size_of_pool pools.Rows = ROWS
size_of_pool pools.MaskRoots = MASK_SLOTS
size_of_pool pools.ActionRoots = ACTION_SLOTS
size_of_pool (pools.Head hook) = 2

-- the masks of a state, each once
abbrev pub masks_in : State → List ℕ
masks_in s = distinct (masks_of s.rows)

-- how many filters a mask has
abbrev pub count_of : State → ℕ → ℕ
count_of s mask = length (filter (of_mask mask) s.rows)

-- how many rows of buckets it has
abbrev pub rows_of : State → ℕ → ℕ
rows_of s mask = size_of (count_of s mask) / ROW_BUCKETS

abbrev pub rows_of_all : State → List ℕ → ℕ
rows_of_all s [] = 0
rows_of_all s (mask ∷ masks) = rows_of s mask + rows_of_all s masks

-- WHAT IS IN USE: a block for each filter, each mask and each live action, the rows and the slot of each mask,
-- the slot of each action, and one place of each hook
abbrev pub live_of : State → Pool → ℕ
live_of s pools.Blocks = length s.rows + length (masks_in s) + length s.actions
live_of s pools.Rows = rows_of_all s (masks_in s)
live_of s pools.MaskRoots = length (masks_in s)
live_of s pools.ActionRoots = length s.actions
live_of s (pools.Head hook) = 1
