use Rattle.walk_texts.specs.Texts.{joined}
use Rattle.batch_walk.specs.Texts.{packet_lines}
use Rattle.tc_base.proofs.Appends.{Appended-then, AppendsUpTo-more, AppendsUpTo-last}
use Rattle.tool_run.proofs.text.write_walk.Goals as goal

pub returns-in_err-write_text-clause-up_to : goal.returns-in_err-write_text-clause-up_to
returns-in_err-write_text-clause-up_to g c =
    let text = c.args.text.now in
    AppendsUpTo-more _ _ _ text.closing.items
    (AppendsUpTo-more (g.O.Sink.written c.args.out.now) (g.O.Sink.written c.write_text.new.out) _
    (joined (packet_lines 1 text.ends)) (rw c.deref.ensures.value at c.write_text.ensures.up_to))

pub returns-in_err-write_packets-clause-up_to : goal.returns-in_err-write_packets-clause-up_to
returns-in_err-write_packets-clause-up_to g c =
    AppendsUpTo-more _ _ _ c.args.text.now.closing.items
    (AppendsUpTo-last (g.O.Sink.written c.args.out.now) (g.O.Sink.written c.write_text.new.out)
    (g.O.Sink.written c.write_packets.new.out) _ _
    (rw c.deref.ensures.value at c.in_ok-write_text.ensures.all)
    c.write_packets.ensures.up_to)

pub returns-clause-up_to : goal.returns-clause-up_to
returns-clause-up_to g c =
    AppendsUpTo-last _ (g.O.Sink.written c.write_packets.new.out) (g.O.Sink.written c.write_text-2.new.out) _
    _
    (Appended-then (g.O.Sink.written c.args.out.now) (g.O.Sink.written c.write_text.new.out)
    (g.O.Sink.written c.write_packets.new.out) _ _
    (rw c.deref.ensures.value at c.in_ok-write_text.ensures.all)
    c.in_ok-write_packets.ensures.all)
    (rw c.deref-2.ensures.value at c.write_text-2.ensures.up_to)
