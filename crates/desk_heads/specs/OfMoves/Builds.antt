-- Masks that are built for an edit before its head's commit (this project's own). `h` is all commits so far,
-- b is the base, and y is the edit.
use Rattle.std.specs.Prelude.{◌≡◌, ℕ, ◌+◌, ◌⊎◌, List}
use Rattle.visit_room.specs.declared.names.MaskName.{MaskName}
use Rattle.store_history.specs.declared.history.Commit.{Commit}
use Rattle.store_history.specs.History.{root_of}
use Rattle.pin_store.specs.declared.shape.Shape.{Shape}
use Rattle.filter_state.specs.declared.edit.Edit.{Edit}
use Rattle.mask_table.specs.declared.mirrors.mirror.KeptMask.{KeptMask}
use Rattle.mask_writer.specs.Masks.{Masks}
use Rattle.mask_writer.specs.Standing.{StandsAt, Holds, AreNamed}
use Rattle.hook_law.specs.Meaning.{point_of}
use Rattle.hook_law.specs.Standing.{IsIn, IsMaskAt}
use Rattle.hook_store_law.specs.Blocks.{hook_codec}
use Rattle.desk_heads.specs.OfHeadCommits.Raised.{stored_next}
use Rattle.desk_heads.specs.OfHeadCommits.Given.{AreFresh}
use Rattle.desk_heads.specs.OfHeadCommits.Built.{IsBuilt}
use Rattle.desk_pools.specs.declared.pools.Pools.{Pools}
use Rattle.desk_pools.specs.Steps.{IsInPool}
use Rattle.desk_masks.specs.Masks.{HasMask}

-- the mask is held at the slot with the filters that the edit leaves it
pub record HasBuilt (masks : Masks) (h : List (Commit Edit)) (y : Edit) (mask slot : ℕ) : Type 0 where
  pub kept : KeptMask
  pub stands : StandsAt masks slot kept
  pub serial : kept.mask.serial ≡ mask
  pub holds : Holds masks slot (point_of h + 1) (stored_next h y mask)

-- THE MASKS MEANWHILE: the writer holds each mask that a head names, and those that were built, which are
-- prepared, and no other
pub record HoldsBuilt (masks : Masks) (shape : Shape) (cells : List ℕ) (h : List (Commit Edit)) (b : ℕ)
    (y : Edit) (built : List MaskName) : Type 0 where
  pub named : AreNamed masks shape cells (root_of h)
  pub has : (mask slot : ℕ) → IsMaskAt hook_codec h mask slot → HasMask masks h mask slot
  pub has_built : (mask slot : ℕ) → IsBuilt built mask slot → HasBuilt masks h y mask slot
  pub only : (slot : ℕ) (kept : KeptMask) → StandsAt masks slot kept
      → IsMaskAt hook_codec h kept.mask.serial slot ⊎ IsBuilt built kept.mask.serial slot
  pub fresh : AreFresh h b y (IsBuilt built)

-- the slots and rows of the masks that were built are in no pool
pub record AreBuiltHanded (pools : Pools) (masks : Masks) (built : List MaskName) : Type 0 where
  pub slots : (mask slot : ℕ) → IsBuilt built mask slot → IsInPool slot pools.masks → ⊥
  pub rows : (mask slot row : ℕ) (kept : KeptMask) → IsBuilt built mask slot → StandsAt masks slot kept
      → IsIn row kept.mask.rows → IsInPool row pools.rows → ⊥
