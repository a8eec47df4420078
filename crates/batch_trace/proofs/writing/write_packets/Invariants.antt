use Rattle.std.proofs.Common.{◌≡◌, ◌≤◌, ◌*◌, ◌++◌, ℕ, List, length, take}
use Rattle.tc_base.specs.Outside.{Appended}
use Rattle.walk_trace.specs.Tallies.{count_at, times_in}
use Rattle.filter_state.specs.Sound.{Each}
use Rattle.batch_trace.specs.Kept.{IsKept}
use Rattle.batch_trace.specs.declared.kept_trace.TheConstants.{PLACES}
use Rattle.batch_trace.specs.Traced.{text_in, packet_parts, decisions}
use Rattle.batch_trace.proofs.writing.write_packets.Given as goal

abbrev pub invariant-loop-end : goal.invariant-loop-end
invariant-loop-end g l = record {
  whole : l.ends ≡ l.yielded ++ l.end-iterator;
  place : l.place ≡ length l.yielded;
  wrote : (put : List ℕ) × Appended (g.O.Sink.written l.initial.out) (g.O.Sink.written l.out) put
      × (put ++ l.page.items ≡ text_in (packet_parts l.traced l.hook 1 l.packets l.yielded));
  tally : (edit : ℕ) → count_at l.tally edit ≡ times_in (decisions l.traced l.hook (take l.place l.packets)) edit;
  few : (edit : ℕ) → count_at l.tally edit ≤ l.place * 65536;
  kept : Each (IsKept l.traced l.hook) l.room.kept.items;
  many : PLACES ≤ length l.room.kept.items;
  later : g.O.Sink.faults l.initial.out ≤ g.O.Sink.faults l.out;
}
