use Rattle.std.proofs.Common.{◌≡◌, ◌≤◌, ◌++◌, ℕ, List, Option}
use Rattle.std.specs.Prelude.{take}
use Rattle.change_fates.specs.Told.{kinds_in, counts_of}
use Rattle.change_fates.specs.Paging.{IsOnPage}
use Rattle.change_fates.proofs.PacketLines.{lines_from}
use Rattle.change_fates.proofs.packets.write_packets.Given as goal

abbrev pub invariant-loop-place : goal.invariant-loop-place
invariant-loop-place g l = record {
  going : (first : Option (List ℕ)) (whole rest : List ℕ) → IsOnPage first (g.O.Sink.written l.initial.out) whole l.initial.room.page (lines_from l.known l.packets 0 ++ rest)
      → IsOnPage first (g.O.Sink.written l.out) whole l.room.page (lines_from l.known l.packets l.place ++ rest);
  counts : l.counts ≡ counts_of (kinds_in l.known (take l.place l.packets));
  later : g.O.Sink.faults l.initial.out ≤ g.O.Sink.faults l.out;
}
