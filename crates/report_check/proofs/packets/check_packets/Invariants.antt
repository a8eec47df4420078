use Rattle.std.proofs.Common.{◌≤◌}
use Rattle.report_check.specs.Rounds.{ToldRound, IsAtPackets, AreWalked}
use Rattle.report_check.specs.OfEvents.Cursors.{IsWithin}
use Rattle.report_check.proofs.packets.check_packets.Given as goal

abbrev pub invariant-loop-place : goal.invariant-loop-place
invariant-loop-place l = record {
  within : IsWithin l.report l.cursor;
  onward : l.fn.cursor.line ≤ l.cursor.line;
  going : (told : ToldRound) → IsAtPackets told l.report l.fn.cursor l.replay l.fn.walkers l.least l.hook l.packets → AreWalked told l.report l.cursor l.walkers l.place;
}
