use Rattle.std.proofs.Common.{◌≡◌, ◌≢◌, ℕ, ◌<◌, ◌≤◌, ◌+◌, length, slice_get, Some}
use Rattle.pin_store.specs.Layout.{block_words}
use Rattle.pin_store.specs.Sheets.{IsSameButCells}
use Rattle.pin_store.specs.Calls.{seen_by, sheet_of, IsSeatAt}
use Rattle.block_codec.specs.declared.table.StoredTable.{StoredTable}
use Rattle.block_codec.specs.Blocks.{block}
use Rattle.block_codec.specs.Tables.{table_words}
use Rattle.miniq_pair.specs.Pairs.{link_at}
use Rattle.miniq_pair.proofs.filling.fill_tables.Given as goal

abbrev pub invariant-loop-place : goal.invariant-loop-place
invariant-loop-place g l = record {
  store : IsSeatAt l.store.words.shared.table_id l.store.shape l.writer.place;
  seen : seen_by l.writer.place ≡ seen_by l.initial.writer.place;
  sheet : IsSameButCells (sheet_of l.initial.writer.place) (sheet_of l.writer.place);
  words : (place : ℕ) (table : StoredTable) → place < l.place → slice_get l.tables place ≡ Some table
      → block_words l.store.shape (sheet_of l.writer.place).cells (l.first + place) ≡ block (table_words table) (link_at l.first place (length l.tables));
  few : (place : ℕ) (table : StoredTable) → place < l.place → slice_get l.tables place ≡ Some table → length table.masks ≤ 16;
  others : (other : ℕ) → ((place : ℕ) → place < length l.tables → other ≢ l.first + place) → other < l.store.shape.blocks
      → block_words l.store.shape (sheet_of l.writer.place).cells other ≡ block_words l.store.shape (sheet_of l.initial.writer.place).cells other;
}
