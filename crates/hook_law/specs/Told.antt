-- What a reader is told of that which stood, when it has seen a history and looks at a root as it is at its
-- end (this project's own). Nobody knows how long a thing stood. But its root holds what it held at some time
-- at which the thing stood.
use Rattle.std.specs.Prelude.{◌≡◌, ℕ, ◌≤◌, List, length, take}
use Rattle.store_history.specs.declared.history.Commit.{Commit}
use Rattle.store_history.specs.History.{root_of, edits_of}
use Rattle.hook_law.specs.Places.{mask_root, bucket_root, place_of}
use Rattle.hook_law.specs.Records.{Codec}
use Rattle.hook_law.specs.Meaning.{Meaning, point_of}
use Rattle.hook_law.specs.Standing.{Region, Role, Bucket, IsMaskAt, IsRowAt, Stands}
use Rattle.hook_law.specs.Telling.{Tells}

module _ {E N P : Type 0} (R : Codec N P) where
  -- the root of a mask that had this slot after n of the commits names what it named at a later time at which
  -- the mask had the slot
  pub record ToldMask (h : List (Commit E)) (n mask slot : ℕ) : Type 0 where
    pub at : ℕ
    pub late : n ≤ at
    pub made : at ≤ length h
    pub stood : IsMaskAt R (take at h) mask slot
    pub same : root_of h (mask_root slot) ≡ root_of (take at h) (mask_root slot)

module _ {E S N P : Type 0} (K : Meaning E S N P) (R : Codec N P) where
  -- the root of what stood after n of the commits tells it up to the point of a later time at which it stood
  pub record Told (h : List (Commit E)) (n r : ℕ) (role : Role) : Type 0 where
    pub at : ℕ
    pub late : n ≤ at
    pub made : at ≤ length h
    pub stood : Stands K R (take at h) r role
    pub same : root_of h r ≡ root_of (take at h) r
    pub tells : Tells K R (edits_of h) role (root_of h r) (point_of (take at h))

  -- the root of a bucket tells the region's bucket up to the point of a later time at which the region's
  -- record had it in this row; so the mask's root had the region's stamp and size at that time
  pub record ToldRow (h : List (Commit E)) (n : ℕ) (q : Region) (k row : ℕ) : Type 0 where
    pub at : ℕ
    pub late : n ≤ at
    pub made : at ≤ length h
    pub stood : IsRowAt R (take at h) q k row
    pub same : root_of h (bucket_root row (place_of k)) ≡ root_of (take at h) (bucket_root row (place_of k))
    pub tells : Tells K R (edits_of h) (Bucket q k) (root_of h (bucket_root row (place_of k)))
        (point_of (take at h))
