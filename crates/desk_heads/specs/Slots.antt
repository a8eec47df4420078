-- The slots of masks in the tables that an edit makes (this project's own).
use Rattle.std.specs.Prelude.{◌≡◌, ℕ, ◌^◌, ◌<◌, ◌≤◌, ◌⊎◌, List, length, slice_get, Some, All}
use Rattle.visit_room.specs.declared.limits.TheConstants.{HEAD_MASKS}
use Rattle.visit_room.specs.declared.names.MaskName.{MaskName}
use Rattle.block_codec.specs.declared.table.StoredTable.{StoredTable}
use Rattle.desk_masks.specs.OfHeadChains.Chains.{IsNamedIn}
use Rattle.desk_heads.specs.OfHeadCommits.Built.{IsBuilt}

-- a mask that was built for the edit has the slot where it was built, and another one that of the old tables
abbrev pub HasSlotIn : List StoredTable → List MaskName → ℕ → ℕ → Type 0
HasSlotIn old built mask slot = IsBuilt built mask slot
    ⊎ (IsNamedIn old mask slot × ((other : ℕ) → IsBuilt built mask other → ⊥))

-- so it is with all of these
abbrev pub AreInSlots : List StoredTable → List MaskName → List MaskName → Type 0
AreInSlots old built names = (place : ℕ) (name : MaskName) → slice_get names place ≡ Some name
    → HasSlotIn old built name.serial name.slot

-- serials have 32 bits, and there are few masks
pub record FitsNumbers (table : StoredTable) : Type 0 where
  pub serial : table.serial < 2 ^ 32
  pub masks : All (λ name. name.serial < 2 ^ 32) table.masks
  pub few : length table.masks ≤ HEAD_MASKS
