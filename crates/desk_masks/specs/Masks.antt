-- What the writer of masks holds, against the masks of a hook's commits (this project's own). `h` is all
-- commits, and `cells` are the words of all blocks.
use Rattle.std.specs.Prelude.{◌≡◌, ℕ, List}
use Rattle.store_history.specs.declared.history.Commit.{Commit}
use Rattle.store_history.specs.History.{root_of}
use Rattle.pin_store.specs.declared.shape.Shape.{Shape}
use Rattle.filter_state.specs.declared.edit.Edit.{Edit}
use Rattle.mask_table.specs.declared.mirrors.mirror.KeptMask.{KeptMask}
use Rattle.mask_writer.specs.Masks.{Masks}
use Rattle.mask_writer.specs.Standing.{StandsAt, Holds, AreNamed}
use Rattle.desk_masks.specs.OfMaskResizes.Resized.{stored_now}
use Rattle.hook_law.specs.Meaning.{point_of}
use Rattle.hook_law.specs.Standing.{IsMaskAt}
use Rattle.hook_store_law.specs.Blocks.{hook_codec}

-- the mask stands at the slot, with the filters that the state has of it, in their order; each came with one
-- of the edits so far
pub record HasMask (masks : Masks) (h : List (Commit Edit)) (mask slot : ℕ) : Type 0 where
  pub kept : KeptMask
  pub stands : StandsAt masks slot kept
  pub serial : kept.mask.serial ≡ mask
  pub holds : Holds masks slot (point_of h) (stored_now h mask)

-- THE MASKS: roots name what the writer holds; it holds each mask that a head names, at its slot, and no
-- other mask
pub record HasMasks (masks : Masks) (shape : Shape) (cells : List ℕ) (h : List (Commit Edit)) : Type 0 where
  pub named : AreNamed masks shape cells (root_of h)
  pub has : (mask slot : ℕ) → IsMaskAt hook_codec h mask slot → HasMask masks h mask slot
  pub only : (slot : ℕ) (kept : KeptMask) → StandsAt masks slot kept
      → IsMaskAt hook_codec h kept.mask.serial slot
