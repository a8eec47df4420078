-- An edit with which masks go (this project's own). `h` is all commits before the edit's, b is the base, and
-- y is the edit.
use Rattle.std.specs.Prelude.{ℕ, ◌<◌, List}
use Rattle.tc_base.specs.declared.hook.Hook.{Hook}
use Rattle.store_history.specs.declared.history.Commit.{Commit}
use Rattle.store_history.specs.History.{root_of}
use Rattle.pin_store.specs.declared.shape.Shape.{Shape}
use Rattle.filter_state.specs.declared.edit.Edit.{Edit}
use Rattle.hook_store_law.specs.OfEffects.Parts.{Stands}
use Rattle.mask_table.specs.Buckets.{mask_root, bucket_root}
use Rattle.mask_table.specs.declared.mirrors.mirror.KeptMask.{KeptMask}
use Rattle.mask_writer.specs.Masks.{Masks}
use Rattle.mask_writer.specs.Standing.{StandsAt, AreNamed}
use Rattle.hook_law.specs.Standing.{IsMaskAt}
use Rattle.hook_law.specs.Keeping.{IsAtRest}
use Rattle.hook_store_law.specs.Stated.{hook_meaning}
use Rattle.hook_store_law.specs.Blocks.{hook_codec}
use Rattle.hook_store_law.specs.OfEdits.Premises.{now, next, LeavesOtherHook}
use Rattle.root_pool_laws.specs.Pools.{IsEmptyRoot}
use Rattle.desk_heads.specs.OfHeadCommits.Raised.{IsReady}
use Rattle.desk_masks.specs.Masks.{HasMask}

-- the edit changes the tables of the hook, and no mask that stands after it
pub record ClosesMasks (h : List (Commit Edit)) (b : ℕ) (y : Edit) (hook : Hook) : Type 0 where
  pub ready : IsReady h b y
  pub rest : IsAtRest hook_meaning hook_codec h
  pub leaves : LeavesOtherHook hook (λ mask. Stands (next h y) mask → ⊥) (now h) (next h y)

-- the masks are held that heads name, and maybe others, which are gone
pub record HoldsMasks (masks : Masks) (shape : Shape) (cells : List ℕ) (h : List (Commit Edit)) : Type 0 where
  pub named : AreNamed masks shape cells (root_of h)
  pub has : (mask slot : ℕ) → IsMaskAt hook_codec h mask slot → HasMask masks h mask slot

-- the mask that is held at the slot is gone: nothing stands at its root, nor at the roots of its buckets
pub record IsGone (masks : Masks) (h : List (Commit Edit)) (slot : ℕ) : Type 0 where
  pub at_slot : IsEmptyRoot hook_meaning hook_codec h (mask_root slot)
  pub at_rows : (kept : KeptMask) (bucket : ℕ) → StandsAt masks slot kept → bucket < kept.mask.size
      → IsEmptyRoot hook_meaning hook_codec h (bucket_root kept.mask bucket)
