use Rattle.std.proofs.Common.{◌≡◌, ℕ, ◌≤◌, List, length, drop, map}
use Rattle.store_history.specs.History.{root_of}
use Rattle.pin_store.specs.Sheets.{IsSameButCells}
use Rattle.pin_store.specs.Calls.{seen_by, sheet_of, IsSeatOf}
use Rattle.block_codec.specs.declared.filter.StoredFilter.{StoredFilter}
use Rattle.mask_table.specs.OfMirrors.Kept.{IsKept}
use Rattle.mask_table.specs.OfMirrors.Lists.{kept_in, HasFilters}
use Rattle.mask_bucket_edits.specs.Putting.{ArePut}
use Rattle.mask_bucket_edits.proofs.copying.put_copies.Given as goal

-- the filters from a place on are copied
abbrev pub invariant-loop-left : goal.invariant-loop-left
invariant-loop-left g l = record {
  within : l.left ≤ length l.from;
  store : IsSeatOf l.store l.writer.place;
  seen : seen_by l.writer.place ≡ seen_by l.initial.writer.place;
  sheet : IsSameButCells (sheet_of l.initial.writer.place) (sheet_of l.writer.place);
  put : ArePut l.initial.mirror l.mirror l.store.shape (sheet_of l.initial.writer.place).cells (sheet_of l.writer.place).cells (drop l.left l.given) (map (kept_in l.initial.mirror) (drop l.left l.from)) l.number l.start;
  lists : (slot last : ℕ) (fs : List StoredFilter) → HasFilters l.initial.mirror slot last fs → HasFilters l.mirror slot last fs;
  kept : IsKept l.mirror l.store.shape (sheet_of l.writer.place).cells (root_of (seen_by l.writer.place));
}

abbrev pub decreases-loop-left : goal.decreases-loop-left
decreases-loop-left g l = l.left
