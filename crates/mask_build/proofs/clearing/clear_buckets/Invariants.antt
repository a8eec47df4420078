use Rattle.std.proofs.Common.{◌≡◌, ℕ, ◌<◌, List, get_or}
use Rattle.store_history.specs.declared.history.Named.{Named}
use Rattle.pin_store.specs.declared.shape.Shape.{Shape}
use Rattle.block_codec.specs.declared.filter.StoredFilter.{StoredFilter}
use Rattle.mask_table.specs.OfMirrors.Kept.{bucket_at, IsKept}
use Rattle.mask_table.specs.OfMirrors.Lists.{HasFilters}
use Rattle.mask_build.proofs.clearing.clear_buckets.Given as goal

abbrev pub invariant-loop-bucket : goal.invariant-loop-bucket
invariant-loop-bucket l = record {
  slots : l.mirror.slots.items ≡ l.initial.mirror.slots.items;
  filters : l.mirror.filters.items ≡ l.initial.mirror.filters.items;
  ages : l.mirror.ages.items ≡ l.initial.mirror.ages.items;
  cleared : (k : ℕ) → k < l.bucket → get_or l.mirror.first.items (bucket_at l.mask k) 0 ≡ 0;
  kept : (shape : Shape) (cells : List ℕ) (roots : ℕ → Named) → IsKept l.initial.mirror shape cells roots → IsKept l.mirror shape cells roots;
  lists : (slot last : ℕ) (fs : List StoredFilter) → HasFilters l.initial.mirror slot last fs → HasFilters l.mirror slot last fs;
}
