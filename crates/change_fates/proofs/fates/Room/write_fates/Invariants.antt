use Rattle.std.proofs.Common.{◌≡◌, ◌≤◌, ◌++◌, ℕ, List, Option}
use Rattle.fate_search.specs.Found.{all_found}
use Rattle.change_fates.specs.Told.{told_in, whens_in}
use Rattle.change_fates.specs.Paging.{IsOnPage}
use Rattle.change_fates.proofs.FateLines.{lines_from}
use Rattle.change_fates.proofs.fates.Room.write_fates.Given as goal

abbrev pub invariant-loop-place : goal.invariant-loop-place
invariant-loop-place g l = record {
  going : (first : Option (List ℕ)) (whole rest : List ℕ) → IsOnPage first (g.O.Sink.written l.initial.out) whole l.initial.self.page (lines_from l.known l.number l.bytes (whens_in l.known l.bytes) (all_found (told_in l.known l.bytes)) 0 ++ rest)
      → IsOnPage first (g.O.Sink.written l.out) whole l.self.page (lines_from l.known l.number l.bytes (whens_in l.known l.bytes) (all_found (told_in l.known l.bytes)) l.place ++ rest);
  later : g.O.Sink.faults l.initial.out ≤ g.O.Sink.faults l.out;
}
