-- What a writer of masks keeps of them, and that it is what the roots name (this project's own). `roots`
-- tells what each root names at the end of all commits, `cells` are the words of all blocks.
use Rattle.store_history.specs.declared.places.TheConstants.{POOL_BLOCKS, MASK_SLOTS}
use Rattle.std.specs.Prelude.{◌≡◌, ℕ, ◌+◌, ◌*◌, ◌/◌, ◌%◌, ◌<◌, List, [], ◌∷◌, slice_get, slice_index}
use Rattle.std.specs.Prelude.{slice_index_or, Option, Some, None}
use Rattle.store_history.specs.declared.history.Link.{Link}
use Rattle.store_history.specs.declared.history.Named.{Named}
use Rattle.pin_store.specs.declared.shape.Shape.{Shape}
use Rattle.pin_store.specs.Layout.{block_words, links_of, first_of, block_in}
use Rattle.block_codec.specs.declared.filter.StoredFilter.{StoredFilter}
use Rattle.block_codec.specs.declared.mask.StoredMask.{StoredMask}
use Rattle.block_codec.specs.Filters.{IsStorableFilter, IsFilterBlock}
use Rattle.block_codec.specs.Masks.{IsMaskBlock}
use Rattle.mask_table.specs.Buckets.{mask_root, bucket_root, bucket_for}
use Rattle.mask_table.specs.declared.mirrors.mirror.Mirror.{Mirror}
use Rattle.mask_table.specs.declared.mirrors.mirror.KeptMask.{KeptMask}

-- where a mask's bucket stands among those of all rows
abbrev pub bucket_at : StoredMask → ℕ → ℕ
bucket_at mask bucket = 16 * slice_index mask.rows (bucket / 16) + bucket % 16

-- the mask that is kept for a slot
abbrev pub Stands : Mirror → ℕ → KeptMask → Type 0
Stands mirror slot kept = slice_index_or mirror.slots.items slot None ≡ Some kept

-- the blocks of the pool that are followed from a number on, which is the first one's number plus 1; the list
-- has the next one's for each, and 0 is the end
abbrev pub Spells : List ℕ → ℕ → List ℕ → Type 0
Spells next number [] = number ≡ 0
Spells next number (b ∷ blocks) = (number ≡ b + 1) × (b < POOL_BLOCKS)
    × Spells next (slice_index next b) blocks

-- a filter is kept for a block of the pool, and may be stored
pub record HasFilter (filters : List (Option StoredFilter)) (b : ℕ) : Type 0 where
  pub pool : b < POOL_BLOCKS
  pub filter : StoredFilter
  pub kept : slice_index_or filters b None ≡ Some filter
  pub storable : IsStorableFilter filter

-- the block has the filter that is kept for it, which belongs into that bucket of so many
pub record HoldsFilter (filters : List (Option StoredFilter)) (shape : Shape) (cells : List ℕ)
    (size bucket b : ℕ) (link : Option ℕ) : Type 0 where
  pub filter : StoredFilter
  pub kept : slice_index_or filters b None ≡ Some filter
  pub hashed : bucket_for size filter.key.words ≡ bucket
  pub there : IsFilterBlock (block_words shape cells b) (filter, link)

-- and so have all blocks of a chain, each linked to the next
abbrev pub HoldFilters : List (Option StoredFilter) → Shape → List ℕ → ℕ → ℕ → List ℕ → Type 0
HoldFilters filters shape cells size bucket [] = Unit {0}
HoldFilters filters shape cells size bucket (b ∷ blocks) = HoldsFilter filters shape cells size bucket b
    (block_in (first_of blocks)) × HoldFilters filters shape cells size bucket blocks

-- a chain is kept that begins with a number, in a bucket of so many
pub record HoldsChain (mirror : Mirror) (shape : Shape) (cells : List ℕ) (size bucket number : ℕ)
    (blocks : List ℕ) : Type 0 where
  pub spelled : Spells mirror.next.items number blocks
  pub hold : HoldFilters mirror.filters.items shape cells size bucket blocks

-- the root is that of a bucket of a mask that stands
pub record BucketAt (mirror : Mirror) (root : ℕ) : Type 0 where
  pub slot : ℕ
  pub bucket : ℕ
  pub kept : KeptMask
  pub stands : Stands mirror slot kept
  pub within : bucket < kept.mask.size
  pub same : root ≡ bucket_root kept.mask bucket

-- the root names a chain that has the block
abbrev pub Names : (ℕ → Named) → ℕ → ℕ → Type 0
Names roots root b = (place : ℕ) × (l : Link) × (slice_get (roots root).chain place ≡ Some l) × (l.block ≡ b)

-- the root of a mask names the record that is kept
pub record KeepsMask (shape : Shape) (cells : List ℕ) (roots : ℕ → Named) (slot : ℕ)
    (kept : KeptMask) : Type 0 where
  pub small : slot < MASK_SLOTS
  pub low : kept.block < POOL_BLOCKS
  pub named : (roots (mask_root slot)).chain ≡ links_of shape cells (kept.block ∷ [])
  pub there : IsMaskBlock (block_words shape cells kept.block) (kept.mask, None)

-- the root of a bucket names the blocks that are kept, with their filters
pub record KeepsBucket (mirror : Mirror) (shape : Shape) (cells : List ℕ) (roots : ℕ → Named)
    (mask : StoredMask) (bucket : ℕ) : Type 0 where
  pub blocks : List ℕ
  pub chain : HoldsChain mirror shape cells mask.size bucket
      (slice_index mirror.first.items (bucket_at mask bucket)) blocks
  pub named : (roots (bucket_root mask bucket)).chain ≡ links_of shape cells blocks

-- WHAT IS KEPT IS WHAT THE ROOTS NAME: each standing mask has its record and its buckets, no two buckets
-- share a root, and no block is in the chains of two buckets
pub record IsKept (mirror : Mirror) (shape : Shape) (cells : List ℕ) (roots : ℕ → Named) : Type 0 where
  pub masks : (slot : ℕ) (kept : KeptMask) → Stands mirror slot kept → KeepsMask shape cells roots slot kept
  pub buckets : (root : ℕ) (at : BucketAt mirror root)
      → KeepsBucket mirror shape cells roots at.kept.mask at.bucket
  pub apart : (root : ℕ) (one two : BucketAt mirror root) → (one.slot ≡ two.slot) × (one.bucket ≡ two.bucket)
  pub once : (root other b : ℕ) → BucketAt mirror root → BucketAt mirror other → Names roots root b
      → Names roots other b → root ≡ other

-- no block of a chain is in that of another bucket than the root's
abbrev pub AreOwn : Mirror → (ℕ → Named) → ℕ → List ℕ → Type 0
AreOwn mirror roots root blocks = (place b other : ℕ) → slice_get blocks place ≡ Some b
    → BucketAt mirror other → Names roots other b → other ≡ root
