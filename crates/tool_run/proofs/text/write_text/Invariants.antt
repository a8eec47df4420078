use Rattle.std.proofs.Common.{◌-◌, ◌≤◌, length, take}
use Rattle.tc_base.specs.Outside.{Appended}
use Rattle.tool_run.proofs.text.write_text.Given as goal

abbrev pub invariant-loop-start : goal.invariant-loop-start
invariant-loop-start g l = record {
  within : l.start ≤ length l.text;
  wrote : Appended (g.O.Sink.written l.initial.out) (g.O.Sink.written l.out) (take l.start l.text);
  later : g.O.Sink.faults l.initial.out ≤ g.O.Sink.faults l.out;
}

abbrev pub decreases-loop-start : goal.decreases-loop-start
decreases-loop-start g l = length l.text - l.start
