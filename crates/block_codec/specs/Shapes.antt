-- What a store must have room for, so that it can keep a hook's masks (this project's own). Told of a store's
-- words a block, its blocks and its roots.
use Rattle.store_history.specs.declared.places.TheConstants.{POOL_BLOCKS, ROOTS}
use Rattle.block_codec.specs.declared.places.TheConstants.{BLOCK_WORDS}
use Rattle.std.specs.Prelude.{◌≡◌, ℕ, ◌≤◌}

-- blocks of forty words, and all of the pool among them
abbrev pub HasPool : ℕ → ℕ → Type 0
HasPool words blocks = (words ≡ BLOCK_WORDS) × (POOL_BLOCKS ≤ blocks)

-- and all roots
abbrev pub HasPoolAndRoots : ℕ → ℕ → ℕ → Type 0
HasPoolAndRoots words blocks roots = (words ≡ BLOCK_WORDS) × (POOL_BLOCKS ≤ blocks) × (ROOTS ≤ roots)
