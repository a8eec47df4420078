-- The commits that put a filter into a bucket's chain, take it out, or put another in its place (this
-- project's own).
use Rattle.std.specs.Prelude.{◌≡◌, ◌≢◌, ℕ, ◌+◌, ◌<◌, List, [], ◌∷◌, ◌++◌, length, take, drop, slice_get, Some}
use Rattle.store_history.specs.declared.history.Link.{Link}
use Rattle.store_history.specs.declared.history.Named.{Named}
use Rattle.store_history.specs.declared.history.Commit.{Commit}
use Rattle.store_history.specs.History.{root_of, first_block}
use Rattle.store_history.specs.Reads.{read_all}
use Rattle.block_codec.specs.declared.filter.StoredFilter.{StoredFilter}
use Rattle.block_codec.specs.declared.mask.StoredMask.{StoredMask}
use Rattle.block_codec.specs.Blocks.{block}
use Rattle.block_codec.specs.Filters.{filter_words}
use Rattle.block_codec.specs.OfReadings.Read.{filter_in}
use Rattle.mask_table.specs.Buckets.{bucket_root, bucket_for, IsAmong}
use Rattle.mask_table.specs.OfMirrors.Linked.{placed, linked}

-- the root of the bucket into which a filter belongs
abbrev pub root_for : StoredMask → StoredFilter → ℕ
root_for mask filter = bucket_root mask (bucket_for mask.size filter.key.words)

-- in the chain of a mask's bucket, whose root is that one, behind the filters `front` there is a filter with
-- that handle
pub record FilterAt (roots : ℕ → Named) (mask : StoredMask) (handle root : ℕ) (front : List StoredFilter)
    (filter : StoredFilter) : Type 0 where
  pub bucket : ℕ
  pub within : bucket < mask.size
  pub is_root : root ≡ bucket_root mask bucket
  pub before : read_all filter_in (take (length front) (roots root).chain) ≡ Some front
  pub link : Link
  pub there : slice_get (roots root).chain (length front) ≡ Some link
  pub read : filter_in link.words ≡ Some filter
  pub named : filter.handle ≡ handle

module _ {E : Type 0} where
  -- the root names the filter in that block, in front of what it named, with the number of the edit as stamp,
  -- and carries the edit
  abbrev pub insert_at : List (Commit E) → ℕ → ℕ → StoredFilter → ℕ → E → Commit E
  insert_at h root b filter number edit = record {
    root = root;
    named = record {
      chain = record {
        block = b;
        words = block (filter_words filter) (first_block (root_of h root).chain);
      } ∷ (root_of h root).chain;
      stamp = number;
    };
    edit = Some (number, edit);
  }

  -- the root names these filters in given blocks, in front of what was behind the filter at a place, with the
  -- number of the edit as stamp, and carries the edit
  abbrev pub rewrite_at : List (Commit E) → ℕ → List ℕ → List StoredFilter → ℕ → ℕ → E → Commit E
  rewrite_at h root given filters place number edit = record {
    root = root;
    named = record {
      chain = linked (placed given filters) (drop (place + 1) (root_of h root).chain);
      stamp = number;
    };
    edit = Some (number, edit);
  }

  -- the filter behind `front` is taken out: those in front of it go into given blocks
  abbrev pub remove_at : List (Commit E) → ℕ → List ℕ → List StoredFilter → ℕ → E → Commit E
  remove_at h root given front number edit = rewrite_at h root given front (length front) number edit

  -- another filter takes its place
  abbrev pub replace_at : List (Commit E) → ℕ → List ℕ → List StoredFilter → StoredFilter → ℕ → E → Commit E
  replace_at h root given front filter number edit =
      rewrite_at h root given (front ++ filter ∷ []) (length front) number edit

-- no filter of the list has the handle
abbrev pub HasNone : ℕ → List StoredFilter → Type 0
HasNone handle fs = (f : StoredFilter) → IsAmong f fs → f.handle ≢ handle
