-- What a writer of masks is seen as (this project's own).
use Rattle.std.specs.Prelude.{ℕ, List, Option}
use Rattle.block_codec.specs.declared.filter.StoredFilter.{StoredFilter}
use Rattle.block_codec.specs.declared.mask.StoredMask.{StoredMask}
use Rattle.mask_table.specs.OfMirrors.Linked.{Placed}

-- filters in the order in which they came; no edit after `newest` has brought one of them
pub record Order : Type 0 where
  pub filters : List StoredFilter
  pub newest : ℕ

-- a mask that stands: the block of its record, the record, by bucket the filters with their blocks, the
-- latest first, and all its filters in order, where the edits came in an order that tells it
pub record Standing : Type 0 where
  pub block : ℕ
  pub mask : StoredMask
  pub chains : List (List Placed)
  pub order : Option Order

-- by slot the mask that stands there, and the blocks and rows that the last changing call took out of masks
pub record Masks : Type 0 where
  pub at : List (Option Standing)
  pub left_blocks : List ℕ
  pub left_rows : List ℕ
