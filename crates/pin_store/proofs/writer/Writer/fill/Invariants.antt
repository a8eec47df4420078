use Rattle.std.proofs.Common.{◌≡◌, ◌≢◌, ℕ, ◌<◌, ◌+◌, ◌*◌, get_or}
use Rattle.pin_store.specs.Sheets.{IsSameButCells}
use Rattle.pin_store.specs.Calls.{IsSeatOf, sheet_of, seen_by}
use Rattle.pin_store.proofs.writer.Writer.fill.Given as goal

abbrev pub invariant-loop-at : goal.invariant-loop-at
invariant-loop-at g l = record {
  store : IsSeatOf l.store l.self.place;
  seen : seen_by l.self.place ≡ seen_by l.initial.self.place;
  sheet : IsSameButCells (sheet_of l.initial.self.place) (sheet_of l.self.place);
  row : (i : ℕ) → i < l.at → get_or (sheet_of l.self.place).cells (l.block * l.store.shape.words + i) 0 ≡ get_or l.words i 0;
  rest : (b i : ℕ) → b ≢ l.block → i < l.store.shape.words → get_or (sheet_of l.self.place).cells (b * l.store.shape.words + i) 0 ≡ get_or (sheet_of l.initial.self.place).cells (b * l.store.shape.words + i) 0;
}
