-- Filters in blocks, and the commits that name them (this project's own).
use Rattle.std.specs.Prelude.{ℕ, ◌==◌, List, [], ◌∷◌, ◌++◌, map, None, if◌then◌else◌}
use Rattle.std.specs.List.{range_with_len}
use Rattle.store_history.specs.declared.history.Link.{Link}
use Rattle.store_history.specs.declared.history.Commit.{Commit}
use Rattle.store_history.specs.History.{first_block}
use Rattle.block_codec.specs.declared.filter.StoredFilter.{StoredFilter}
use Rattle.block_codec.specs.declared.mask.StoredMask.{StoredMask}
use Rattle.block_codec.specs.Blocks.{block}
use Rattle.block_codec.specs.Filters.{filter_words}
use Rattle.block_codec.specs.Masks.{mask_words}
use Rattle.mask_table.specs.Buckets.{mask_root, bucket_root, bucket_for}

-- a filter, and the block that it is put into
pub record Placed : Type 0 where
  pub block : ℕ
  pub filter : StoredFilter

-- filters put into blocks, the first into the first, as far as both go
abbrev pub placed : List ℕ → List StoredFilter → List Placed
placed [] fs = []
placed (b ∷ bs) [] = []
placed (b ∷ bs) (f ∷ fs) = record { block = b; filter = f } ∷ placed bs fs

-- those of a bucket, of so many, the latest first
abbrev pub placed_in : ℕ → ℕ → List Placed → List Placed
placed_in size bucket [] = []
placed_in size bucket (p ∷ ps) = placed_in size bucket ps ++ (if bucket_for size p.filter.key.words == bucket
    then p ∷ [] else [])

-- their blocks, each linked to the next, in front of a chain
abbrev pub linked : List Placed → List Link → List Link
linked [] chain = chain
linked (p ∷ ps) chain = record {
  block = p.block;
  words = block (filter_words p.filter) (first_block (linked ps chain));
} ∷ linked ps chain

module _ {E : Type 0} where
  -- a bucket's root comes to name those filters of a mask that are in the bucket
  abbrev pub bucket_commit : StoredMask → List Placed → ℕ → ℕ → Commit E
  bucket_commit mask ps stamp bucket = record {
    root = bucket_root mask bucket;
    named = record { chain = linked (placed_in mask.size bucket ps) []; stamp = stamp };
    edit = None;
  }

  -- the root at a slot comes to name the record of a mask in a block
  abbrev pub mask_commit : ℕ → StoredMask → ℕ → ℕ → Commit E
  mask_commit slot mask b stamp = record {
    root = mask_root slot;
    named = record { chain = record { block = b; words = block (mask_words mask) None } ∷ []; stamp = stamp };
    edit = None;
  }

  -- the roots of so many first buckets of a mask, one after the other
  abbrev pub bucket_commits : StoredMask → List Placed → ℕ → ℕ → List (Commit E)
  bucket_commits mask ps stamp count = map (bucket_commit mask ps stamp) (range_with_len 0 count)

  -- A WHOLE MASK AT A SLOT: the roots of all its buckets, the empty ones too, and then the mask's
  abbrev pub raise_commits : ℕ → StoredMask → ℕ → List Placed → ℕ → List (Commit E)
  raise_commits slot mask b ps stamp = bucket_commits mask ps stamp mask.size ++ mask_commit slot mask b stamp
      ∷ []

-- the same mask with another number of buckets, in these rows
abbrev pub resized : StoredMask → ℕ → List ℕ → StoredMask
resized mask size rows = record { serial = mask.serial; size = size; mask = mask.mask; rows = rows }
