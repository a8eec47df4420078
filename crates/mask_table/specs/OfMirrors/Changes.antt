-- What the steps of an edit change of what is kept (this project's own).
use Rattle.store_history.specs.declared.places.TheConstants.{POOL_BLOCKS}
use Rattle.std.specs.Prelude.{◌≡◌, ◌≢◌, ℕ, ◌<◌, ◌≤◌, List, slice_index, slice_index_or, slice_set, None}
use Rattle.pin_store.specs.declared.shape.Shape.{Shape}
use Rattle.pin_store.specs.Layout.{block_words}
use Rattle.mask_table.specs.declared.mirrors.mirror.Mirror.{Mirror}

-- a block was filled, and what is kept of it was written
pub record IsFilled (mirror mirror2 : Mirror) (shape : Shape) (old new : List ℕ) (b : ℕ) : Type 0 where
  pub wide : POOL_BLOCKS ≤ shape.blocks
  pub others : (other : ℕ) → other ≢ b → other < shape.blocks
      → block_words shape new other ≡ block_words shape old other
  pub slots : mirror2.slots.items ≡ mirror.slots.items
  pub first : mirror2.first.items ≡ mirror.first.items
  pub next : (c : ℕ) → c ≢ b → slice_index mirror2.next.items c ≡ slice_index mirror.next.items c
  pub filters : (c : ℕ) → c ≢ b → slice_index_or mirror2.filters.items c None
      ≡ slice_index_or mirror.filters.items c None
  pub ages : (c : ℕ) → c ≢ b → slice_index mirror2.ages.items c ≡ slice_index mirror.ages.items c

-- the chain of the bucket at a place begins with another number
pub record IsRenamed (mirror mirror2 : Mirror) (place number : ℕ) : Type 0 where
  pub slots : mirror2.slots.items ≡ mirror.slots.items
  pub next : mirror2.next.items ≡ mirror.next.items
  pub filters : mirror2.filters.items ≡ mirror.filters.items
  pub ages : mirror2.ages.items ≡ mirror.ages.items
  pub first : mirror2.first.items ≡ slice_set mirror.first.items place number
