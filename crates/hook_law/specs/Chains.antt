-- What a chain of blocks reads as (this project's own).
use Rattle.std.specs.Prelude.{ℕ, ◌%◌, ◌==◌, List, [], ◌∷◌, ◌++◌, Option, Some, None, if◌then◌else◌}
use Rattle.store_history.specs.declared.history.Link.{Link}
pub use Rattle.store_history.specs.Reads.{in_front, read_all, read_first}
use Rattle.hook_law.specs.Records.{Slotted, TableRecord, StatedFilter, Codec}

module _ {N : Type 0} where
  abbrev pub masks_in : List (TableRecord N) → List Slotted
  masks_in [] = []
  masks_in (t ∷ ts) = t.masks ++ masks_in ts

  abbrev pub masks_read : Option (List (TableRecord N)) → List Slotted
  masks_read None = []
  masks_read (Some tables) = masks_in tables

  -- the masks, with their slots, that a head's chain of tables names
  abbrev pub masks_of : {P : Type 0} → Codec N P → List Link → List Slotted
  masks_of R chain = masks_read (read_all R.table chain)

-- the filters of a mask that are in its bucket k, the latest first
abbrev pub bucket_of : (List ℕ → ℕ) → ℕ → ℕ → List StatedFilter → List StatedFilter
bucket_of hash size k [] = []
bucket_of hash size k (f ∷ fs) = bucket_of hash size k fs ++ (if hash f.key % size == k then f ∷ [] else [])
