-- What stands at a writer of masks: the words in which its calls speak of what it is seen as (this project's
-- own).
use Rattle.store_history.specs.declared.places.TheConstants.{MASK_SLOTS, POOL_BLOCKS, ROWS}
use Rattle.std.specs.Prelude.{◌≡◌, ◌≢◌, ℕ, ◌<◌, ◌≤◌, List, [], ◌∷◌, length, map, slice_index_or, Option, Some}
use Rattle.std.specs.Prelude.{None, All, eqb}
use Rattle.std.specs.List.{IsDistinct}
use Rattle.store_history.specs.declared.history.Named.{Named}
use Rattle.pin_store.specs.declared.shape.Shape.{Shape}
use Rattle.pin_store.specs.Layout.{block_words, links_of}
use Rattle.block_codec.specs.declared.filter.StoredFilter.{StoredFilter}
use Rattle.block_codec.specs.Filters.{IsFilterBlock}
use Rattle.mask_table.specs.Buckets.{bucket_root, bucket_for, bucket_of, IsAmong}
use Rattle.mask_table.specs.declared.mirrors.mirror.KeptMask.{KeptMask}
use Rattle.mask_table.specs.OfMirrors.Kept.{Names, KeepsMask}
use Rattle.mask_table.specs.OfMirrors.Linked.{Placed}
use Rattle.mask_writer.specs.Masks.{Order, Standing, Masks}

-- ---- by slot
abbrev pub mask_in : Option Standing → Option KeptMask
mask_in None = None
mask_in (Some standing) = Some (record { block = standing.block; mask = standing.mask })

abbrev pub order_in : Option Standing → Option Order
order_in None = None
order_in (Some standing) = standing.order

abbrev pub chain_in : Option Standing → ℕ → List Placed
chain_in None bucket = []
chain_in (Some standing) bucket = slice_index_or standing.chains bucket []

-- all that stands at a slot
abbrev pub standing_at : Masks → ℕ → Option Standing
standing_at writer slot = slice_index_or writer.at slot None

-- the mask that stands at each slot, and the block of its record
abbrev pub masks_of : Masks → List (Option KeptMask)
masks_of writer = map mask_in writer.at

-- the order of the filters of the mask at a slot, where it is told
abbrev pub order_at : Masks → ℕ → Option Order
order_at writer slot = order_in (standing_at writer slot)

-- the filters of a bucket of the mask at a slot, in their blocks, the latest first
abbrev pub chain_at : Masks → ℕ → ℕ → List Placed
chain_at writer slot bucket = chain_in (standing_at writer slot) bucket

-- this mask stands at the slot, with its record in this block
abbrev pub StandsAt : Masks → ℕ → KeptMask → Type 0
StandsAt writer slot kept = slice_index_or (masks_of writer) slot None ≡ Some kept

-- no mask stands at the slot
abbrev pub IsEmptyAt : Masks → ℕ → Type 0
IsEmptyAt writer slot = slice_index_or (masks_of writer) slot None ≡ None

-- at all other slots there stands what stood there, block by block
abbrev pub OthersStay : Masks → Masks → ℕ → Type 0
OthersStay before after slot = (other : ℕ) → other ≢ slot → standing_at after other ≡ standing_at before other

-- the mask at the slot has these filters, in the order in which they came, and no edit after `last` has
-- brought one of them: each bucket has its own, the latest first
pub record Holds (writer : Masks) (slot last : ℕ) (fs : List StoredFilter) : Type 0 where
  pub kept : KeptMask
  pub stands : StandsAt writer slot kept
  pub order : Order
  pub told : order_at writer slot ≡ Some order
  pub filters : order.filters ≡ fs
  pub late : order.newest ≤ last
  pub buckets : (bucket : ℕ) → bucket < kept.mask.size
      → map (λ p. p.filter) (chain_at writer slot bucket) ≡ bucket_of kept.mask.size bucket fs

-- ---- what the roots name
-- a block of the pool has a filter, which belongs into that bucket of so many, and is linked to another
pub record IsFiled (shape : Shape) (cells : List ℕ) (size bucket : ℕ) (p : Placed) (link : Option ℕ)
    : Type 0 where
  pub pool : p.block < POOL_BLOCKS
  pub hashed : bucket_for size p.filter.key.words ≡ bucket
  pub there : IsFilterBlock (block_words shape cells p.block) (p.filter, link)

abbrev pub first_in : List Placed → Option ℕ
first_in [] = None
first_in (p ∷ ps) = Some p.block

-- so it is with all blocks of a chain, each linked to the next
abbrev pub AreFiled : Shape → List ℕ → ℕ → ℕ → List Placed → Type 0
AreFiled shape cells size bucket [] = Unit {0}
AreFiled shape cells size bucket (p ∷ ps) =
    IsFiled shape cells size bucket p (first_in ps) × AreFiled shape cells size bucket ps

-- the root is that of a bucket of a mask that stands
pub record BucketOf (writer : Masks) (root : ℕ) : Type 0 where
  pub slot : ℕ
  pub bucket : ℕ
  pub kept : KeptMask
  pub stands : StandsAt writer slot kept
  pub within : bucket < kept.mask.size
  pub same : root ≡ bucket_root kept.mask bucket

-- the root of a bucket names the blocks of a chain, which have its filters
pub record NamesChain (shape : Shape) (cells : List ℕ) (roots : ℕ → Named) (root size bucket : ℕ)
    (ps : List Placed) : Type 0 where
  pub named : (roots root).chain ≡ links_of shape cells (map (λ p. p.block) ps)
  pub filed : AreFiled shape cells size bucket ps

-- THE ROOTS NAME WHAT STANDS: of all slots, each standing mask has its record and its buckets' chains, with
-- their filters, no two buckets share a root, and no block is in the chains of two buckets
pub record AreNamed (writer : Masks) (shape : Shape) (cells : List ℕ) (roots : ℕ → Named) : Type 0 where
  pub slots : length writer.at ≡ MASK_SLOTS
  pub masks : (slot : ℕ) (kept : KeptMask) → StandsAt writer slot kept → KeepsMask shape cells roots slot kept
  pub buckets : (root : ℕ) (at : BucketOf writer root)
      → NamesChain shape cells roots (bucket_root at.kept.mask at.bucket) at.kept.mask.size at.bucket
      (chain_at writer at.slot at.bucket)
  pub apart : (root : ℕ) (one two : BucketOf writer root) → (one.slot ≡ two.slot) × (one.bucket ≡ two.bucket)
  pub once : (root other b : ℕ) → BucketOf writer root → BucketOf writer other
      → Names roots root b → Names roots other b → root ≡ other

-- rows of the pool, all different, that no standing mask has
pub record AreFree (writer : Masks) (rows : List ℕ) : Type 0 where
  pub different : IsDistinct eqb rows
  pub pool : All (λ row. row < ROWS) rows
  pub free : (slot row : ℕ) (kept : KeptMask) → StandsAt writer slot kept
      → IsAmong row kept.mask.rows → IsAmong row rows → ⊥
