use Rattle.std.proofs.Common.{◌≡◌, ℕ, ◌<◌, ◌≤◌}
use Rattle.pin_store.specs.Notes.{NotedFrom, IsTaken}
use Rattle.pin_store.specs.Sheets.{note_at, IsSameButNotes, QuietAfter}
use Rattle.pin_store.specs.Calls.{IsSeatOf, seen_by, sheet_of}
use Rattle.pin_store.proofs.writer.Writer.scan.Given as goal

abbrev pub invariant-loop-i : goal.invariant-loop-i
invariant-loop-i g l = record {
  store : IsSeatOf l.store l.self.place;
  seen : seen_by l.self.place ≡ seen_by l.initial.self.place;
  same : IsSameButNotes (sheet_of l.initial.self.place) (sheet_of l.self.place);
  quiet : QuietAfter (sheet_of l.initial.self.place) (sheet_of l.self.place);
  from : (j : ℕ) → j < l.i → NotedFrom (note_at (sheet_of l.initial.self.place) j) (note_at (sheet_of l.self.place) j);
  rest : (j : ℕ) → l.i ≤ j → note_at (sheet_of l.self.place) j ≡ note_at (sheet_of l.initial.self.place) j;
  taken : (j : ℕ) → j < l.i → IsTaken (note_at (sheet_of l.self.place) j);
}
