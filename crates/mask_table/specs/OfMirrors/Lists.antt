-- The filters of a mask in the order in which they came (this project's own). With each filter an age is
-- kept, which rises in that order: a chain has its bucket's filters alone, so a mask whose buckets become
-- fewer couldn't be put in order by its chains.
use Rattle.std.specs.Prelude.{◌≡◌, ℕ, ◌+◌, ◌*◌, ◌<◌, ◌≤◌, ◌==◌, List, [], ◌∷◌, ◌++◌, map, slice_index}
use Rattle.std.specs.Prelude.{slice_index_or, Option, Some, None, if◌then◌else◌}
use Rattle.block_codec.specs.declared.filter.StoredFilter.{StoredFilter}
use Rattle.mask_table.specs.Buckets.{bucket_for}
use Rattle.mask_table.specs.declared.mirrors.mirror.Mirror.{Mirror}
use Rattle.mask_table.specs.declared.mirrors.mirror.KeptMask.{KeptMask}
use Rattle.mask_table.specs.OfMirrors.Kept.{bucket_at, Stands, Spells}

-- a filter and its age
pub record Dated : Type 0 where
  pub age : ℕ
  pub filter : StoredFilter

-- the age of the filter at a place among those that an edit brings
abbrev pub age_of : ℕ → ℕ → ℕ
age_of edit place = 4294967296 * edit + place

-- the ages rise, from one that is `low` or more to one below `high`
abbrev pub Rises : ℕ → ℕ → List Dated → Type 0
Rises low high [] = low ≤ high
Rises low high (d ∷ ds) = (low ≤ d.age) × Rises (d.age + 1) high ds

-- how that is kept of a block, and what is kept of a block
abbrev pub kept_as : Dated → ℕ × Option StoredFilter
kept_as d = (d.age, Some d.filter)

abbrev pub kept_in : Mirror → ℕ → ℕ × Option StoredFilter
kept_in mirror b = (slice_index mirror.ages.items b, slice_index_or mirror.filters.items b None)

-- what is to be kept of a bucket's blocks, the latest filter's first
abbrev pub dated_in : ℕ → ℕ → List Dated → List (ℕ × Option StoredFilter)
dated_in size bucket [] = []
dated_in size bucket (d ∷ ds) = dated_in size bucket ds ++ (if bucket_for size d.filter.key.words == bucket
    then kept_as d ∷ [] else [])

-- THE MASK AT A SLOT HAS THESE FILTERS, in this order, and no edit after `last` has brought one of them: each
-- chain has those of its bucket, the latest first
pub record HasFilters (mirror : Mirror) (slot last : ℕ) (fs : List StoredFilter) : Type 0 where
  pub kept : KeptMask
  pub stands : Stands mirror slot kept
  pub dated : List Dated
  pub filters : map (λ d. d.filter) dated ≡ fs
  pub rise : Rises 0 (age_of (last + 1) 0) dated
  pub buckets : (bucket : ℕ) (blocks : List ℕ) → bucket < kept.mask.size
      → Spells mirror.next.items (slice_index mirror.first.items (bucket_at kept.mask bucket)) blocks
      → map (kept_in mirror) blocks ≡ dated_in kept.mask.size bucket dated
