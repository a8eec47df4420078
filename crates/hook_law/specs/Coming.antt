-- What comes to stand with a commit, where it didn't stand before (this project's own).
use Rattle.std.specs.Prelude.{◌≡◌, ℕ, ◌+◌, ◌<◌, ◌⊎◌, List, slice_get, Some}
use Rattle.store_history.specs.declared.history.Commit.{Commit}
use Rattle.hook_law.specs.Places.{mask_slots, rows, mask_root, action_root, bucket_root, row_of, place_of}
use Rattle.hook_law.specs.Records.{MaskRecord, Codec}
use Rattle.hook_law.specs.Meaning.{Meaning, point_of}
use Rattle.hook_law.specs.Standing.{Region, Role, Mask, Bucket, Action, Names, region_of}
use Rattle.hook_law.specs.Numbered.{IsPutAction}
use Rattle.hook_law.specs.Heads.{IsPrepared}

-- the root is that of a bucket of the region, in the rows of this record
pub record IsBucketOf (mask : MaskRecord) (q : Region) (r : ℕ) (x : Role) : Type 0 where
  pub k : ℕ
  pub row : ℕ
  pub is : x ≡ Bucket q k
  pub inside : k < mask.size
  pub there : slice_get mask.rows (row_of k) ≡ Some row
  pub small : row < rows
  pub root : r ≡ bucket_root row (place_of k)

module _ {E S N P : Type 0} (K : Meaning E S N P) (R : Codec N P) where
  -- an action that was put for the edit, at its root
  pub record IsMade (b : ℕ) (h : List (Commit E)) (y : E) (r : ℕ) (x : Role) : Type 0 where
    pub action : ℕ
    pub is : x ≡ Action action
    pub put : IsPutAction K R b h y action
    pub root : r ≡ action_root put.slot

  -- a mask that was prepared and that the commit's chain names, at its root, or a bucket of it
  pub record IsOfPrepared (b : ℕ) (h : List (Commit E)) (c : Commit E) (y : E) (r : ℕ)
      (x : Role) : Type 0 where
    pub mask : ℕ
    pub slot : ℕ
    pub small : slot < mask_slots
    pub names : Names R c.named.chain mask slot
    pub prepared : IsPrepared K R b h y mask slot
    pub part : ((x ≡ Mask mask) × (r ≡ mask_root slot))
        ⊎ IsBucketOf prepared.record_read (region_of slot mask (point_of h + 1) prepared.record_read) r x
