-- How the masks are seen that a writer keeps in its arrays, and what always holds of these (this project's
-- own).
use Rattle.store_history.specs.declared.places.TheConstants.{MASK_SLOTS}
use Rattle.std.specs.Prelude.{◌≡◌, ℕ, zero, suc, List, [], ◌∷◌, length, map, slice_index, slice_index_or}
use Rattle.std.specs.Prelude.{Option, Some, None}
use Rattle.std.specs.List.{range_with_len}
use Rattle.store_history.specs.declared.history.Named.{Named}
use Rattle.pin_store.specs.declared.shape.Shape.{Shape}
use Rattle.block_codec.specs.declared.filter.StoredFilter.{StoredFilter}
use Rattle.block_codec.specs.declared.mask.StoredMask.{StoredMask}
use Rattle.mask_table.specs.declared.mirrors.mirror.Mirror.{Mirror}
use Rattle.mask_table.specs.declared.mirrors.mirror.KeptMask.{KeptMask}
use Rattle.mask_table.specs.OfMirrors.Kept.{bucket_at, IsKept}
use Rattle.mask_table.specs.OfMirrors.Linked.{Placed}
use Rattle.mask_table.specs.OfMirrors.Lists.{HasFilters}
use Rattle.mask_writer.specs.Masks.{Order, Standing}

-- a block that has a filter, in front of others
abbrev pub with_block : ℕ → Option StoredFilter → List Placed → List Placed
with_block b None rest = rest
with_block b (Some filter) rest = record { block = b; filter = filter } ∷ rest

-- the blocks that are followed from a number on, so many at most, with their filters
abbrev pub followed : Mirror → ℕ → ℕ → List Placed
followed mirror zero number = []
followed mirror (suc many) zero = []
followed mirror (suc many) (suc b) =
    with_block b (slice_index_or mirror.filters.items b None)
    (followed mirror many (slice_index mirror.next.items b))

-- the chain of a bucket of a mask
abbrev pub chain_of : Mirror → StoredMask → ℕ → List Placed
chain_of mirror mask bucket =
    followed mirror (length mirror.next.items) (slice_index mirror.first.items (bucket_at mask bucket))

abbrev pub standing_of : Mirror → Option KeptMask → Option Order → Option Standing
standing_of mirror None order = None
standing_of mirror (Some kept) order = Some (record {
  block = kept.block;
  mask = kept.mask;
  chains = map (chain_of mirror kept.mask) (range_with_len 0 kept.mask.size);
  order = order;
})

-- slot by slot
abbrev pub all_standing : Mirror → List (Option KeptMask) → List (Option Order) → List (Option Standing)
all_standing mirror [] orders = []
all_standing mirror (slot ∷ slots) [] = standing_of mirror slot None ∷ all_standing mirror slots []
all_standing mirror (slot ∷ slots) (order ∷ orders) =
    standing_of mirror slot order ∷ all_standing mirror slots orders

-- THE ARRAYS ARE WHAT SOME ROOTS NAME, and each order that is told is that of the ages
pub record IsTold (mirror : Mirror) (orders : List (Option Order)) : Type 0 where
  pub long : length orders ≡ MASK_SLOTS
  pub kept : (shape : Shape) × (cells : List ℕ) × (roots : ℕ → Named) × IsKept mirror shape cells roots
  pub known : (slot : ℕ) (order : Order) → slice_index_or orders slot None ≡ Some order
      → HasFilters mirror slot order.newest order.filters
