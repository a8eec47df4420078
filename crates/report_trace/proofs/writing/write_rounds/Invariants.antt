use Rattle.std.proofs.Common.{◌≡◌, ◌≤◌, ◌+◌, ◌*◌, ℕ, length, drop}
use Rattle.filter_state.specs.Sound.{Each}
use Rattle.pcap_io.specs.declared.capture.Capture.{Capture}
use Rattle.pcap_io.specs.Captures.{AreShort}
use Rattle.batch_trace.specs.Passed.{edits_of}
use Rattle.lawful_runs.specs.Given.{rounds_from, packet_count}
use Rattle.walk_trace.specs.Tallies.{count_at, times_in}
use Rattle.report_check.specs.Walks.{StandsIn}
use Rattle.report_trace.specs.Traced.{decisions}
use Rattle.report_trace.specs.Rounds.{RoundsLeft, AreRoundsLeft}
use Rattle.report_trace.proofs.RoundsAt.{StandsAt}
use Rattle.report_trace.proofs.writing.write_rounds.Given as goal

abbrev pub invariant-loop-round : goal.invariant-loop-round
invariant-loop-round g l = record {
  going : (all : RoundsLeft) → AreRoundsLeft all l.known (g.O.Sink.written l.fn.out) l.left 1 0 l.job.job.rounds l.job.captures (length l.fn.walkers.items)
      → StandsAt all l.known (g.O.Sink.written l.out) l.behind (l.round-index + 1) (drop l.round-index l.rounds) l.captures (length l.walkers.items) l.tally (λ edit. times_in (decisions l.known (rounds_from l.job.job.rounds all.files l.job.captures) all.its) edit);
  few : (edit : ℕ) → count_at l.tally edit + packet_count l.captures * 65536 ≤ 1048576 * 65536;
  short : Each (λ (capture : Capture). AreShort capture.packets) l.captures;
  stand : Each (StandsIn (edits_of l.known)) l.walkers.items;
  many : length l.walkers.items ≡ length l.fn.walkers.items;
  later : g.O.Sink.faults l.fn.out ≤ g.O.Sink.faults l.out;
}
