-- Filters that were laid into blocks for a mask that no root names yet (this project's own).
use Rattle.store_history.specs.declared.places.TheConstants.{POOL_BLOCKS}
use Rattle.std.specs.Prelude.{◌≡◌, ℕ, ◌+◌, ◌<◌, List, [], ◌∷◌, map, slice_index}
use Rattle.store_history.specs.declared.history.Commit.{Commit}
use Rattle.pin_store.specs.declared.shape.Shape.{Shape}
use Rattle.pin_store.specs.Calls.{IsUnnamed}
use Rattle.block_codec.specs.declared.filter.StoredFilter.{StoredFilter}
use Rattle.block_codec.specs.declared.mask.StoredMask.{StoredMask}
use Rattle.mask_table.specs.Buckets.{IsAmong}
use Rattle.mask_table.specs.declared.mirrors.mirror.Mirror.{Mirror}
use Rattle.mask_table.specs.OfMirrors.Kept.{bucket_at, HoldsChain}
use Rattle.mask_table.specs.OfMirrors.Linked.{Placed, placed_in}
use Rattle.mask_table.specs.OfMirrors.Lists.{Dated, age_of, kept_in, dated_in}

-- a filter, the block that it was laid into, and its age
pub record Laid : Type 0 where
  pub block : ℕ
  pub filter : StoredFilter
  pub age : ℕ

abbrev pub places : List Laid → List Placed
places xs = map (λ x. record { block = x.block; filter = x.filter }) xs

abbrev pub dates : List Laid → List Dated
dates xs = map (λ x. record { age = x.age; filter = x.filter }) xs

abbrev pub filters_of : List Laid → List StoredFilter
filters_of xs = map (λ x. x.filter) xs

abbrev pub laid_blocks : List Laid → List ℕ
laid_blocks xs = map (λ x. x.block) xs

-- the blocks of those of a bucket, of so many, the latest first
abbrev pub blocks_in : ℕ → ℕ → List Laid → List ℕ
blocks_in size bucket xs = map (λ p. p.block) (placed_in size bucket (places xs))

-- THESE WERE LAID FOR THE MASK, in this order, and no others: the chain that is kept for each bucket has
-- those of the bucket, the latest first, with their ages
pub record IsLaid (mirror : Mirror) (shape : Shape) (cells : List ℕ) (mask : StoredMask)
    (xs : List Laid) : Type 0 where
  pub chain : (bucket : ℕ) → bucket < mask.size
      → HoldsChain mirror shape cells mask.size bucket
      (slice_index mirror.first.items (bucket_at mask bucket)) (blocks_in mask.size bucket xs)
  pub kept : (bucket : ℕ) → bucket < mask.size → map (kept_in mirror) (blocks_in mask.size bucket xs)
      ≡ dated_in mask.size bucket (dates xs)

-- they were laid into blocks that no chain has had since the base, and so is a block for the mask's record,
-- which is another one
pub record IsReady {E : Type 0} (mirror : Mirror) (shape : Shape) (cells : List ℕ) (mask : StoredMask)
    (base : ℕ) (h : List (Commit E)) (block : ℕ) (xs : List Laid) : Type 0 where
  pub laid : IsLaid mirror shape cells mask xs
  pub free : (b : ℕ) → IsAmong b (laid_blocks xs) → IsUnnamed base h b
  pub low : block < POOL_BLOCKS
  pub spare : IsUnnamed base h block
  pub apart : IsAmong block (laid_blocks xs) → ⊥

-- filters with ages in given blocks, the first in the first, as far as both go
abbrev pub laid_in : List ℕ → List Dated → List Laid
laid_in [] ds = []
laid_in (b ∷ bs) [] = []
laid_in (b ∷ bs) (d ∷ ds) = record { block = b; filter = d.filter; age = d.age } ∷ laid_in bs ds

-- the filters that an edit brings, from its `place`th on, with their ages
abbrev pub dated_by : ℕ → ℕ → List StoredFilter → List Dated
dated_by edit place [] = []
dated_by edit place (f ∷ fs) = record { age = age_of edit place; filter = f } ∷ dated_by edit (place + 1) fs
