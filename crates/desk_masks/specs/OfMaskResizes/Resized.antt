-- A mask that is given another number of buckets, in the law's terms (this project's own). `h` is all
-- commits, b is the base.
use Rattle.std.specs.Prelude.{◌≡◌, ℕ, ◌<◌, ◌^◌, List, length, map, eqb}
use Rattle.std.specs.List.{IsDistinct}
use Rattle.store_history.specs.declared.history.Commit.{Commit}
use Rattle.flow_mask.specs.Sizes.{size_of}
use Rattle.filter_state.specs.declared.edit.Edit.{Edit}
use Rattle.block_codec.specs.declared.filter.StoredFilter.{StoredFilter}
use Rattle.block_codec.specs.declared.mask.StoredMask.{StoredMask}
use Rattle.block_codec.specs.Masks.{IsStorableMask}
use Rattle.mask_table.specs.Buckets.{bucket_root}
use Rattle.mask_order.specs.Fitting.{FitInto}
use Rattle.hook_law.specs.Meaning.{now_of}
use Rattle.hook_law.specs.Standing.{IsMaskAt, IsUnused}
use Rattle.hook_store_law.specs.Stated.{hook_meaning, filters_at}
use Rattle.hook_store_law.specs.Blocks.{hook_codec}
use Rattle.hook_store_law.specs.Told.{with_slots}
use Rattle.hook_store_law.specs.OfEffects.Parts.{words_of}

-- the filters that a mask has now, as they are stored
abbrev pub stored_now : List (Commit Edit) → ℕ → List StoredFilter
stored_now h serial = map (with_slots h) (filters_at (now_of hook_meaning h) serial)

-- the record is that of a mask that stands at the slot, with the size for its filters and with rows that
-- nobody uses, and its filters fit the given blocks
pub record CanResize (h : List (Commit Edit)) (b slot : ℕ) (mask : StoredMask) (given : List ℕ) : Type 0 where
  pub at : IsMaskAt hook_codec h mask.serial slot
  pub storable : IsStorableMask mask
  pub serial : mask.serial < 2 ^ 32
  pub key : length mask.mask.words ≡ 14
  pub words : mask.mask.words ≡ words_of (now_of hook_meaning h) mask.serial
  pub size : mask.size ≡ size_of (length (filters_at (now_of hook_meaning h) mask.serial))
  pub rows : IsDistinct eqb mask.rows
  pub unused : (k : ℕ) → k < mask.size → IsUnused hook_meaning hook_codec b h (bucket_root mask k)
  pub fit : FitInto given (stored_now h mask.serial)
