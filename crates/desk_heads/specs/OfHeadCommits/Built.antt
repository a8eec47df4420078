-- Masks that were built for an edit, each at its slot (this project's own). `h` is all commits before the
-- head's, b is the base, and y is the edit.
use Rattle.std.specs.Prelude.{◌≡◌, ℕ, ◌⊎◌, List, slice_get, Some}
use Rattle.tc_base.specs.declared.hook.Hook.{Hook}
use Rattle.visit_room.specs.declared.names.MaskName.{MaskName}
use Rattle.store_history.specs.declared.history.Commit.{Commit}
use Rattle.filter_state.specs.declared.edit.Edit.{Edit}
use Rattle.block_codec.specs.declared.table.StoredTable.{StoredTable}
use Rattle.hook_store_law.specs.OfEffects.Parts.{Stands}
use Rattle.hook_store_law.specs.OfEdits.Premises.{next}
use Rattle.desk_heads.specs.OfHeadCommits.Given.{AreGiven}

-- the list has the mask, with that slot
pub record IsBuilt (built : List MaskName) (mask slot : ℕ) : Type 0 where
  pub place : ℕ
  pub name : MaskName
  pub there : slice_get built place ≡ Some name
  pub serial_is : name.serial ≡ mask
  pub slot_is : name.slot ≡ slot

-- the masks that an edit concerns: those that were built for it, and those that don't stand after it
abbrev pub IsConcerned : List (Commit Edit) → Edit → List MaskName → ℕ → Type 0
IsConcerned h y built mask = ((slot : ℕ) × IsBuilt built mask slot) ⊎ (Stands (next h y) mask → ⊥)

-- tables that a hook may be given with the edit
abbrev pub IsGiven : List (Commit Edit) → ℕ → Edit → Hook → List MaskName → List StoredTable → Type 0
IsGiven h b y hook built tables = AreGiven h b y hook (IsConcerned h y built) (IsBuilt built) tables
