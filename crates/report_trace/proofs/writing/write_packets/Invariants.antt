use Rattle.std.proofs.Common.{◌≡◌, ◌≤◌, ◌+◌, ◌*◌, ℕ, length, drop}
use Rattle.filter_state.specs.Sound.{Each}
use Rattle.batch_trace.specs.Passed.{edits_of}
use Rattle.walk_trace.specs.Tallies.{count_at, times_in}
use Rattle.report_check.specs.Walks.{StandsIn}
use Rattle.report_trace.specs.Traced.{decided_by}
use Rattle.report_trace.specs.Writing.{PacketsLeft, ArePackets, arrivals_of}
use Rattle.report_trace.proofs.Packets.{with_outcomes}
use Rattle.report_trace.proofs.writing.write_packets.Given as goal

abbrev pub invariant-loop-place : goal.invariant-loop-place
invariant-loop-place g l = record {
  going : (all : PacketsLeft) → ArePackets all l.known (g.O.Sink.written l.fn.out) l.left 1 l.hook l.packets (length l.fn.walkers.items)
      → ArePackets (with_outcomes all (drop l.place all.outcomes)) l.known (g.O.Sink.written l.out) l.behind (l.place + 1) l.hook (drop l.place l.packets) (length l.walkers.items);
  tally : (all : PacketsLeft) → ArePackets all l.known (g.O.Sink.written l.fn.out) l.left 1 l.hook l.packets (length l.fn.walkers.items) → (edit : ℕ)
      → count_at l.tally edit + times_in (decided_by l.known (arrivals_of l.hook (drop l.place l.packets)) (drop l.place all.outcomes)) edit ≡ count_at l.fn.tally edit + times_in (decided_by l.known (arrivals_of l.hook l.packets) all.outcomes) edit;
  few : (edit : ℕ) → count_at l.tally edit ≤ count_at l.fn.tally edit + l.place * 65536;
  stand : Each (StandsIn (edits_of l.known)) l.walkers.items;
  many : length l.walkers.items ≡ length l.fn.walkers.items;
  later : g.O.Sink.faults l.fn.out ≤ g.O.Sink.faults l.out;
}
