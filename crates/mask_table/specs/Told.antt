-- What a law of masks says of what roots name, and what a look-up tells (this project's own). `h` is a list
-- of commits, n and `at` are numbers of commits, k is a number of edits.
use Rattle.std.specs.Prelude.{◌≡◌, ◌⊎◌, ℕ, ◌+◌, ◌*◌, ◌-◌, ◌≤◌, Bool, false, List, length, take, max, Some}
use Rattle.std.specs.Prelude.{MatchOption}
use mathlib.Core.List.{IsPrefix}
use Rattle.visit_room.specs.declared.names.ActionName.{ActionName}
use Rattle.flow_mask.specs.Masks.{each_and}
use Rattle.flow_mask.specs.Sizes.{size_of}
use Rattle.store_history.specs.declared.history.Commit.{Commit}
use Rattle.store_history.specs.declared.history.Named.{Named}
use Rattle.store_history.specs.History.{root_of, edits_of}
use Rattle.store_history.specs.Reads.{read_all, read_first}
use Rattle.block_codec.specs.declared.filter.StoredFilter.{StoredFilter}
use Rattle.block_codec.specs.declared.mask.StoredMask.{StoredMask}
use Rattle.block_codec.specs.OfReadings.Read.{filter_in, mask_of_words}
use Rattle.block_chain.specs.Ways.{block_words}
use Rattle.mask_table.specs.Buckets.{mask_root, bucket_root, bucket_for, bucket_of, key_root, IsAnswer}

-- a size is the one for the mask's filters after k edits, or after one less
abbrev pub FitsSize : (ℕ → List StoredFilter) → ℕ → ℕ → Type 0
FitsSize filters size k = (size ≡ size_of (length (filters k))) ⊎ (size ≡ size_of (length (filters (k - 1))))

-- the record that a mask's root names is right after each number of edits from its stamp up to e
pub record TellsMask (words : ℕ → List ℕ) (filters : ℕ → List StoredFilter) (named : Named)
    (e : ℕ) : Type 0 where
  pub mask : StoredMask
  pub read : read_first mask_of_words named.chain ≡ Some mask
  pub early : named.stamp ≤ e
  pub words_are : (k : ℕ) → named.stamp ≤ k → k ≤ e → words k ≡ mask.mask.words
  pub fits : (k : ℕ) → named.stamp ≤ k → k ≤ e → FitsSize filters mask.size k

-- and so are the filters that a bucket's root names
pub record TellsBucket (filters : ℕ → List StoredFilter) (size bucket : ℕ) (named : Named)
    (e : ℕ) : Type 0 where
  pub there : List StoredFilter
  pub read : read_all filter_in named.chain ≡ Some there
  pub early : named.stamp ≤ e
  pub are : (k : ℕ) → named.stamp ≤ k → k ≤ e → there ≡ bucket_of size bucket (filters k)

module _ {E : Type 0} where
  -- how many edits the first n commits carry
  abbrev pub edits_by : List (Commit E) → ℕ → ℕ
  edits_by h n = length (edits_of (take n h))

  -- the slot stood after n commits: what its root names at the end, it named at some later time at which the
  -- slot still stood
  pub record Stood (stands : List (Commit E) → ℕ → ℕ → Type 0) (h : List (Commit E))
      (n slot serial : ℕ) : Type 0 where
    pub at : ℕ
    pub late : n ≤ at
    pub made : at ≤ length h
    pub there : stands (take at h) slot serial
    pub same : root_of h (mask_root slot) ≡ root_of (take at h) (mask_root slot)

  -- a bucket of the record that the mask's root named after n commits: what the bucket's root names at the
  -- end is right up to some later time at which the slot still stood, with a record of the same stamp and
  -- size
  pub record BucketTold (stands : List (Commit E) → ℕ → ℕ → Type 0) (filters : ℕ → List StoredFilter)
      (h : List (Commit E)) (n slot serial bucket : ℕ) (mask : StoredMask) : Type 0 where
    pub at : ℕ
    pub late : n ≤ at
    pub made : at ≤ length h
    pub there : stands (take at h) slot serial
    pub stamp : (root_of (take at h) (mask_root slot)).stamp ≡ (root_of (take n h) (mask_root slot)).stamp
    pub mask_there : StoredMask
    pub read : read_first mask_of_words (root_of (take at h) (mask_root slot)).chain ≡ Some mask_there
    pub size : mask_there.size ≡ mask.size
    pub tells : TellsBucket filters mask.size bucket (root_of h (bucket_root mask bucket)) (edits_by h at)

  -- WHAT A LOOK-UP TELLS, where the slot stood after n commits: from its point up to the edits of some later
  -- time at which the slot still stood, the answer is that of a search of the mask's filters for the key
  -- under the mask, and the loads are few. The mask is told by one record, which the slot's root named in
  -- between: its fourteen words are the mask's at each of these numbers of edits, so the mask is there. The
  -- bound counts the filters of the key's bucket, in the record's size, which is the mask's at that number of
  -- edits or one before.
  pub record LookedUp (stands : List (Commit E) → ℕ → ℕ → Type 0) (words : ℕ → List ℕ)
      (filters : ℕ → List StoredFilter) (h : List (Commit E)) (n slot serial : ℕ) (key : List ℕ)
      (found : Bool) (actions : List ActionName) (point loads : ℕ) : Type 0 where
    pub at : ℕ
    pub late : n ≤ at
    pub made : at ≤ length h
    pub there : stands (take at h) slot serial
    pub reached : point ≤ edits_by h at
    pub answer : (k : ℕ) → point ≤ k → k ≤ edits_by h at
        → IsAnswer (filters k) (each_and key (words k)) found actions
    pub read_at : ℕ
    pub read_late : n ≤ read_at
    pub read_before : read_at ≤ at
    pub mask : StoredMask
    pub read : read_first mask_of_words (root_of (take read_at h) (mask_root slot)).chain ≡ Some mask
    pub words_are : (k : ℕ) → point ≤ k → k ≤ edits_by h at → words k ≡ mask.mask.words
    pub wide : (k : ℕ) → point ≤ k → k ≤ edits_by h at → length (words k) ≡ 14
    pub fits : (k : ℕ) → point ≤ k → k ≤ edits_by h at → FitsSize filters mask.size k
    pub few : (k : ℕ) → point ≤ k → k ≤ edits_by h at
        → loads ≤ block_words + 2 + block_words * length
        (bucket_of mask.size (bucket_for mask.size (each_and key (words k))) (filters k))

  -- WHAT THE POINT OF A LOOK-UP IS, for a reader that had seen the commits `old` and has now seen `new`: it
  -- loaded the slot's root after the commits `first`. Where no record can be read there, nothing is found,
  -- and the point is that root's stamp. With a record, it is the greater of two stamps: of that root then,
  -- and of the root of the key's bucket now.
  pub record IsLoadedPoint (old new : List (Commit E)) (slot : ℕ) (key : List ℕ) (found : Bool)
      (point : ℕ) : Type 0 where
    pub first : List (Commit E)
    pub since : IsPrefix old first
    pub until : IsPrefix first new
    pub stamps : MatchOption (read_first mask_of_words (root_of first (mask_root slot)).chain)
        ((found ≡ false) × (point ≡ (root_of first (mask_root slot)).stamp))
        (λ mask. point ≡ max (root_of first (mask_root slot)).stamp (root_of new (key_root mask key)).stamp)
