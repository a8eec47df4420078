use Rattle.std.proofs.Common.{◌≡◌, ℕ, ◌<◌, List, take}
use Rattle.store_history.specs.History.{root_of}
use Rattle.pin_store.specs.Layout.{block_words}
use Rattle.pin_store.specs.Sheets.{IsSameButCells}
use Rattle.pin_store.specs.Calls.{seen_by, sheet_of, IsSeatOf}
use Rattle.block_codec.specs.declared.filter.StoredFilter.{StoredFilter}
use Rattle.mask_table.specs.Buckets.{IsAmong}
use Rattle.mask_table.specs.OfMirrors.Kept.{IsKept}
use Rattle.mask_table.specs.OfMirrors.Lists.{HasFilters}
use Rattle.mask_build.specs.Laid.{laid_in, dated_by, IsLaid}
use Rattle.mask_build.proofs.laying.lay_all.Given as goal

abbrev pub invariant-loop-place : goal.invariant-loop-place
invariant-loop-place g l = record {
  store : IsSeatOf l.store l.writer.place;
  seen : seen_by l.writer.place ≡ seen_by l.initial.writer.place;
  sheet : IsSameButCells (sheet_of l.initial.writer.place) (sheet_of l.writer.place);
  others : (other : ℕ) → (IsAmong other l.blocks → ⊥) → other < l.store.shape.blocks
      → block_words l.store.shape (sheet_of l.writer.place).cells other ≡ block_words l.store.shape (sheet_of l.initial.writer.place).cells other;
  slots : l.mirror.slots.items ≡ l.initial.mirror.slots.items;
  laid : IsLaid l.mirror l.store.shape (sheet_of l.writer.place).cells l.mask (laid_in l.blocks (take l.place (dated_by l.edit 0 l.filters)));
  kept : IsKept l.mirror l.store.shape (sheet_of l.writer.place).cells (root_of (seen_by l.writer.place));
  lists : (slot last : ℕ) (fs : List StoredFilter) → HasFilters l.initial.mirror slot last fs → HasFilters l.mirror slot last fs;
}
