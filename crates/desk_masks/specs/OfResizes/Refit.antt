-- When a mask may be given the number of buckets for its filters (this project's own). `h` is all commits, b
-- is the base, and `point` the number of edits.
use Rattle.std.specs.Prelude.{◌≡◌, ℕ, ◌+◌, ◌*◌, ◌<◌, ◌⊎◌, List, ◌++◌, length, slice_get, Some, None, eqb}
use Rattle.std.specs.Prelude.{IsTrue}
use Rattle.std.specs.List.{IsDistinct}
use Rattle.store_history.specs.declared.history.Commit.{Commit}
use Rattle.store_history.specs.History.{root_of}
use Rattle.pin_store.specs.declared.shape.Shape.{Shape}
use Rattle.flow_mask.specs.Sizes.{is_size, size_of}
use Rattle.filter_state.specs.declared.edit.Edit.{Edit}
use Rattle.store_history.specs.declared.places.TheConstants.{ROWS, ROW_BUCKETS, BUCKET_ROOTS}
use Rattle.mask_table.specs.declared.mirrors.mirror.KeptMask.{KeptMask}
use Rattle.mask_table.specs.OfMirrors.Given.{AreGiven}
use Rattle.mask_writer.specs.Masks.{Masks}
use Rattle.mask_writer.specs.Standing.{StandsAt}
use Rattle.hook_law.specs.Places.{mask_root, bucket_root}
use Rattle.hook_law.specs.Standing.{IsIn}
use Rattle.hook_law.specs.Keeping.{IsAtRestBut}
use Rattle.hook_store_law.specs.Stated.{hook_meaning, filters_at}
use Rattle.hook_store_law.specs.Blocks.{hook_codec}
use Rattle.hook_store_law.specs.Kept.{IsKeptAt}
use Rattle.hook_store_law.specs.OfEdits.Premises.{now}
use Rattle.desk_pools.specs.declared.pools.Pools.{Pools}
use Rattle.desk_pools.specs.Pools.{IsFreeAt}
use Rattle.desk_pools.specs.Steps.{IsInPool}
use Rattle.desk_masks.specs.Masks.{HasMasks}

-- how many filters the mask has
abbrev pub count_now : List (Commit Edit) → ℕ → ℕ
count_now h serial = length (filters_at (now h) serial)

-- rows that were taken: all different, nothing stood at the roots of their buckets since the base, and what
-- these name is older than the last edit
pub record AreRows (h : List (Commit Edit)) (b point : ℕ) (rows : List ℕ) : Type 0 where
  pub different : IsDistinct eqb rows
  pub small : (row : ℕ) → IsIn row rows → row < ROWS
  pub free : (row : ℕ) → IsIn row rows → IsFreeAt h b BUCKET_ROOTS ROW_BUCKETS row
  pub older : (row place : ℕ) → IsIn row rows → place < ROW_BUCKETS
      → (root_of h (bucket_root row place)).stamp < point

-- THE MASK AT THE SLOT MAY BE LAID ANEW: it is the one that the last edit has changed, and stands with
-- another size; the size and the rows are those for its filters, and there is a block for each of these and
-- one for the record
pub record MayRefit (masks : Masks) (shape : Shape) (cells : List ℕ) (h : List (Commit Edit))
    (b point slot size : ℕ) (blocks rows : List ℕ) : Type 0 where
  pub kept : KeptMask
  pub kept_at : IsKeptAt h b point
  pub has : HasMasks masks shape cells h
  pub stands : StandsAt masks slot kept
  pub rest : IsAtRestBut hook_meaning hook_codec h kept.mask.serial
  pub proper : IsTrue (is_size size)
  pub fits : size ≡ size_of (count_now h kept.mask.serial)
  pub rows_are : AreRows h b point rows
  pub many_rows : size ≡ 16 * length rows
  pub blocks_are : AreGiven b h blocks
  pub many_blocks : length blocks ≡ count_now h kept.mask.serial + 1
  pub older : (root_of h (mask_root slot)).stamp < point

-- the root is the slot's, or that of a bucket of these rows
abbrev pub IsOfRefit : ℕ → List ℕ → ℕ → Type 0
IsOfRefit slot rows root = (root ≡ mask_root slot)
    ⊎ ((row : ℕ) × (place : ℕ) × IsIn row rows × (place < ROW_BUCKETS) × (root ≡ bucket_root row place))

-- commits without a number to such roots are all that came
pub record GoesOn (h k : List (Commit Edit)) (slot : ℕ) (rows : List ℕ) : Type 0 where
  pub more : List (Commit Edit)
  pub seen : k ≡ h ++ more
  pub each : (place : ℕ) (c : Commit Edit) → slice_get more place ≡ Some c
      → (c.edit ≡ None) × IsOfRefit slot rows c.root

-- what is given is in no pool
pub record AreOutOf (pools : Pools) (blocks rows : List ℕ) : Type 0 where
  pub rows_out : (row : ℕ) → IsIn row rows → IsInPool row pools.rows → ⊥
  pub blocks_out : (block : ℕ) → IsIn block blocks → IsInPool block pools.blocks → ⊥
