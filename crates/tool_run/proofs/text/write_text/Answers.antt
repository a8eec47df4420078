use Rattle.std.proofs.Common.{take, drop, arith}
use Rattle.std.specs.List.{slice_range}
use Rattle.tc_base.proofs.Appends.{Appended-then, AppendsUpTo-then}
use Rattle.tool_run.proofs.Lines.{text_split, text_more}
use Rattle.tool_run.proofs.text.write_text.Goals as goal

pub returns-in_err-write_all-clause-up_to : goal.returns-in_err-write_all-clause-up_to
returns-in_err-write_all-clause-up_to g c =
    let text = c.args.text.now in
    let start = c.loop-start.start in
    let end = c.line_end-end.result in
    rw (text_split text start end (omega arith))
    (AppendsUpTo-then (g.O.Sink.written c.args.out.now) (g.O.Sink.written c.loop-start.out)
    (g.O.Sink.written c.write_all.new.self) (take start text) (slice_range text start end) (drop end text)
    c.loop-start.invariant.wrote c.write_all.ensures.up_to)

pub loop-start-preserved : goal.loop-start-preserved
loop-start-preserved g c =
    let text = c.args.text.now in
    let start = c.loop-start.start in
    let end = c.line_end-end.result in
    record {
      within = c.line_end-end.ensures.within;
      wrote = rw (text_more text start end (omega arith))
          (Appended-then (g.O.Sink.written c.args.out.now) (g.O.Sink.written c.loop-start.out)
          (g.O.Sink.written c.write_all.new.self) (take start text) (slice_range text start end)
          c.loop-start.invariant.wrote c.in_ok-write_all.ensures.all);
      later = omega (arith, c.write_all.ensures.counts.later, c.loop-start.invariant.later);
    }
