use Rattle.std.proofs.Common.{◌≡◌, ◌≤◌, ◌++◌, length}
use Rattle.tc_base.specs.Outside.{Appended}
use Rattle.walk_texts.specs.Texts.{joined}
use Rattle.batch_walk.specs.Texts.{packet_lines}
use Rattle.tool_run.specs.Endings.{IsLine}
use Rattle.tool_run.proofs.text.write_packets.Given as goal

abbrev pub invariant-loop-end : goal.invariant-loop-end
invariant-loop-end g l = record {
  whole : l.ends ≡ l.yielded ++ l.end-iterator;
  number : l.line.number ≡ length l.yielded;
  line : IsLine l.line;
  wrote : Appended (g.O.Sink.written l.initial.out) (g.O.Sink.written l.out)
      (joined (packet_lines 1 l.yielded));
  later : g.O.Sink.faults l.initial.out ≤ g.O.Sink.faults l.out;
}
