-- Filters that are looked for by their handle (this project's own).
use Rattle.store_history.specs.declared.places.TheConstants.{BUCKET_ROOTS}
use Rattle.std.specs.Prelude.{◌≡◌, ℕ, ◌+◌, List, length, map, slice_get, slice_index, slice_index_or, Option}
use Rattle.std.specs.Prelude.{Some, None}
use Rattle.store_history.specs.declared.history.Link.{Link}
use Rattle.store_history.specs.declared.history.Named.{Named}
use Rattle.block_codec.specs.declared.filter.StoredFilter.{StoredFilter}
use Rattle.block_codec.specs.declared.mask.StoredMask.{StoredMask}
use Rattle.mask_table.specs.declared.mirrors.mirror.Mirror.{Mirror}
use Rattle.mask_table.specs.declared.mirrors.mirror.KeptMask.{KeptMask}
use Rattle.mask_table.specs.OfMirrors.Kept.{bucket_at, Spells}
use Rattle.mask_table.specs.OfMirrors.Changing.{FilterAt}

-- a filter with the handle is kept in the block
pub record HasHandle (filters : List (Option StoredFilter)) (handle b : ℕ) : Type 0 where
  pub filter : StoredFilter
  pub kept : slice_index_or filters b None ≡ Some filter
  pub named : filter.handle ≡ handle

-- a block of a bucket's chain has a filter with the handle
pub record IsInBucket (mirror : Mirror) (kept : KeptMask) (handle k : ℕ) : Type 0 where
  pub blocks : List ℕ
  pub spelled : Spells mirror.next.items (slice_index mirror.first.items (bucket_at kept.mask k)) blocks
  pub place : ℕ
  pub block : ℕ
  pub there : slice_get blocks place ≡ Some block
  pub has : HasHandle mirror.filters.items handle block

-- the root of the bucket at a place among those of all rows names these blocks, with a filter of that handle
-- behind so many others
pub record IsFound (roots : ℕ → Named) (mask : StoredMask) (handle place count : ℕ)
    (blocks : List ℕ) : Type 0 where
  pub front : List StoredFilter
  pub filter : StoredFilter
  pub there : FilterAt roots mask handle (BUCKET_ROOTS + place) front filter
  pub counted : length front ≡ count
  pub blocks_are : map (λ (l : Link). l.block) (roots (BUCKET_ROOTS + place)).chain ≡ blocks
