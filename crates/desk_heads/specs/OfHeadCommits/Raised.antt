-- Masks that an edit makes, or makes anew, in the law's terms (this project's own). `h` is all commits before
-- those of the mask, b is the base, and y is the edit.
use Rattle.std.specs.Prelude.{◌≡◌, ℕ, ◌^◌, ◌<◌, ◌≤◌, List, length, map, eqb}
use Rattle.std.specs.List.{IsDistinct}
use Rattle.store_history.specs.declared.history.Commit.{Commit}
use Rattle.store_history.specs.History.{root_of}
use Rattle.flow_mask.specs.Sizes.{size_of}
use Rattle.filter_state.specs.declared.edit.Edit.{Edit}
use Rattle.filter_state.specs.declared.refusal.Done.{Done}
use Rattle.filter_state.specs.States.{State}
use Rattle.block_codec.specs.declared.filter.StoredFilter.{StoredFilter}
use Rattle.block_codec.specs.declared.mask.StoredMask.{StoredMask}
use Rattle.store_history.specs.declared.places.TheConstants.{MASK_SLOTS}
use Rattle.block_codec.specs.Masks.{IsStorableMask}
use Rattle.mask_table.specs.Buckets.{mask_root, bucket_root}
use Rattle.mask_order.specs.Fitting.{FitInto}
use Rattle.hook_store_law.specs.OfEffects.Parts.{words_of}
use Rattle.hook_law.specs.Meaning.{point_of}
use Rattle.hook_law.specs.Standing.{IsUnused}
use Rattle.hook_law.specs.Numbered.{PutsActions}
use Rattle.hook_store_law.specs.Stated.{hook_meaning, filters_at}
use Rattle.hook_store_law.specs.Blocks.{hook_codec}
use Rattle.hook_store_law.specs.Told.{with_slots}
use Rattle.hook_store_law.specs.OfEdits.Premises.{next, IsAccepted}

-- the filters that the edit leaves a mask, as they are stored: actions are at the slots of the commits so far
abbrev pub stored_next : List (Commit Edit) → Edit → ℕ → List StoredFilter
stored_next h y serial = map (with_slots h) (filters_at (next h y) serial)

-- the edit is accepted after the commits, and the actions that it makes were put before
pub record IsReady (h : List (Commit Edit)) (b : ℕ) (y : Edit) : Type 0 where
  pub state : State
  pub done : Done
  pub accepted : IsAccepted h b y state done
  pub made : PutsActions hook_meaning hook_codec b h y

-- nothing stood at the root since the base, and its stamp isn't after the point
pub record IsSpareRoot (h : List (Commit Edit)) (b root : ℕ) : Type 0 where
  pub unused : IsUnused hook_meaning hook_codec b h root
  pub early : (root_of h root).stamp ≤ point_of h

-- the record is that of a mask as the edit leaves it, its slot and its rows are spare, and its filters fit
-- the given blocks
pub record CanRaise (h : List (Commit Edit)) (b : ℕ) (y : Edit) (slot : ℕ) (mask : StoredMask)
    (given : List ℕ) : Type 0 where
  pub small : slot < MASK_SLOTS
  pub storable : IsStorableMask mask
  pub serial : mask.serial < 2 ^ 32
  pub key : length mask.mask.words ≡ 14
  pub words : mask.mask.words ≡ words_of (next h y) mask.serial
  pub size : mask.size ≡ size_of (length (filters_at (next h y) mask.serial))
  pub distinct : IsDistinct eqb mask.rows
  pub at_slot : IsSpareRoot h b (mask_root slot)
  pub at_rows : (bucket : ℕ) → bucket < mask.size → IsSpareRoot h b (bucket_root mask bucket)
  pub fit : FitInto given (stored_next h y mask.serial)
