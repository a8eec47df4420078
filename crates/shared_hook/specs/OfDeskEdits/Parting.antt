-- Masks that went with an edit, while the writer of masks still holds them (this project's own). `h` is all
-- commits, those of the edit among them, and b is the base. `count` tells by its serial how many filters a
-- mask had.
use Rattle.std.specs.Prelude.{◌≡◌, ℕ, ◌+◌, ◌/◌, ◌==◌, ◌<◌, ◌≤◌, ◌⊎◌, Bool, false, List, [], ◌∷◌, ◌++◌}
use Rattle.std.specs.Prelude.{if◌then◌else◌, length, sum_by, slice_get, Some}
use Rattle.std.specs.List.{list_any}
use Rattle.store_history.specs.declared.history.Commit.{Commit}
use Rattle.store_history.specs.History.{root_of}
use Rattle.pin_store.specs.declared.shape.Shape.{Shape}
use Rattle.flow_mask.specs.Sizes.{size_of}
use Rattle.visit_room.specs.declared.names.MaskName.{MaskName}
use Rattle.filter_state.specs.declared.edit.Edit.{Edit}
use Rattle.block_codec.specs.declared.table.StoredTable.{StoredTable}
use Rattle.store_history.specs.declared.places.TheConstants.{MASK_SLOTS, ROW_BUCKETS}
use Rattle.mask_table.specs.declared.mirrors.mirror.KeptMask.{KeptMask}
use Rattle.mask_table.specs.OfMirrors.Forgetting.{bucket_blocks}
use Rattle.mask_writer.specs.Masks.{Masks}
use Rattle.mask_writer.specs.Standing.{StandsAt}
use Rattle.hook_law.specs.Standing.{IsIn, IsMaskAt}
use Rattle.hook_store_law.specs.Blocks.{hook_codec}
use Rattle.desk_pools.specs.declared.pools.Pools.{Pools}
use Rattle.desk_pools.specs.Pools.{ArePools}
use Rattle.desk_pools.specs.Steps.{IsInPool}
use Rattle.desk_actions.specs.Effects.{IsCounted}
use Rattle.desk_heads.specs.Closes.{HoldsMasks, IsGone}

-- ---- names
-- one of the names has the serial; a table has such a name
abbrev pub has_name : ℕ → List MaskName → Bool
has_name serial names = list_any (λ n. n.serial == serial) names

abbrev pub is_named : List StoredTable → ℕ → Bool
is_named tables serial = list_any (λ t. has_name serial t.masks) tables

-- the names of all masks of tables
abbrev pub names_in : List StoredTable → List MaskName
names_in [] = []
names_in (t ∷ ts) = t.masks ++ names_in ts

-- the serials of those names that other tables don't have
abbrev pub gone_of : List StoredTable → List MaskName → List ℕ
gone_of tables [] = []
gone_of tables (n ∷ ns) = if is_named tables n.serial then gone_of tables ns else n.serial ∷ gone_of tables ns

-- ---- what leaves
-- so many rows a mask with its size has
abbrev pub rows_for : (ℕ → ℕ) → ℕ → ℕ
rows_for count mask = size_of (count mask) / ROW_BUCKETS

-- a slot for each mask, its rows, and a block for each of its filters and for its record
pub record HaveLeft (count : ℕ → ℕ) (old now : Pools) (gone : List ℕ) : Type 0 where
  pub masks : IsCounted old.masks now.masks 0 (length gone)
  pub rows : IsCounted old.rows now.rows 0 (sum_by (rows_for count) gone)
  pub blocks : IsCounted old.blocks now.blocks 0 (sum_by (λ mask. count mask + 1) gone)
  pub others : now ≡ record old { blocks = now.blocks; rows = now.rows; masks = now.masks }

-- ---- masks to be forgotten
-- the writer holds the mask, which is gone, and what it has is in no pool
pub record IsToGo (masks : Masks) (pools : Pools) (h : List (Commit Edit)) (count : ℕ → ℕ)
    (name : MaskName) : Type 0 where
  pub kept : KeptMask
  pub small : name.slot < MASK_SLOTS
  pub stands : StandsAt masks name.slot kept
  pub gone : IsGone masks h name.slot
  pub slot_apart : IsInPool name.slot pools.masks → ⊥
  pub rows_apart : (row : ℕ) → IsIn row kept.mask.rows → IsInPool row pools.rows → ⊥
  pub row_count : length kept.mask.rows ≡ rows_for count name.serial
  pub block_count : length (bucket_blocks (root_of h) kept.mask kept.mask.size) ≡ count name.serial

-- THE MASKS MEANWHILE: the writer holds each mask that a head names, and beside these the ones among the
-- names that the tables don't have
pub record IsParting (masks : Masks) (pools : Pools) (shape : Shape) (cells : List ℕ)
    (h : List (Commit Edit)) (b : ℕ) (count : ℕ → ℕ) (tables : List StoredTable)
    (names : List MaskName) : Type 0 where
  pub low : b ≤ length h
  pub holds : HoldsMasks masks shape cells h
  pub are : ArePools pools h b
  pub each : (place : ℕ) (name : MaskName) → slice_get names place ≡ Some name
      → is_named tables name.serial ≡ false → IsToGo masks pools h count name
  pub only : (slot : ℕ) (kept : KeptMask) → StandsAt masks slot kept
      → IsMaskAt hook_codec h kept.mask.serial slot
      ⊎ ((name : MaskName) × IsIn name names × (name.slot ≡ slot) × (is_named tables name.serial ≡ false))
  pub apart : (i j : ℕ) (one other : MaskName) → slice_get names i ≡ Some one
      → slice_get names j ≡ Some other → one.slot ≡ other.slot → i ≡ j

-- the first of the names is at the slot, and is to go
pub record MayPart (masks : Masks) (pools : Pools) (slot : ℕ) : Type 0 where
  pub shape : Shape
  pub cells : List ℕ
  pub h : List (Commit Edit)
  pub b : ℕ
  pub count : ℕ → ℕ
  pub tables : List StoredTable
  pub name : MaskName
  pub rest : List MaskName
  pub slot_is : name.slot ≡ slot
  pub gone : is_named tables name.serial ≡ false
  pub parting : IsParting masks pools shape cells h b count tables (name ∷ rest)

-- these are the first of the names
pub record MayAllPart (masks : Masks) (pools : Pools) (tables : List StoredTable)
    (names : List MaskName) : Type 0 where
  pub shape : Shape
  pub cells : List ℕ
  pub h : List (Commit Edit)
  pub b : ℕ
  pub count : ℕ → ℕ
  pub rest : List MaskName
  pub parting : IsParting masks pools shape cells h b count tables (names ++ rest)
