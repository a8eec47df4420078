use Rattle.std.proofs.Common.{◌∙◌, subst}
use Rattle.tc_base.specs.Outside.{Appended, AppendsUpTo}
use Rattle.walk_texts.specs.Texts.{joined}
use Rattle.batch_trace.specs.Traced.{text_in, packet_parts, parts_with, decided_lines}
use Rattle.batch_trace.proofs.Parts.{whole_trace}
use Rattle.batch_trace.proofs.Written.{at_stop, at_packets, behind_packets, at_decided, at_closing, all_written, renamed}
use Rattle.batch_trace.proofs.writing.write_trace.Goals as goal

pub returns-in_err-write_all-clause-up_to : goal.returns-in_err-write_all-clause-up_to
returns-in_err-write_all-clause-up_to g c =
    let t = c.args.traced.now in
    let hook = c.args.hook in
    let packets = c.args.packets.now in
    let text = c.args.text.now in
    let whole = text_in (parts_with text.stop.items text.ends text.closing.items t hook packets) in
    let told = text_in (packet_parts t hook 1 packets text.ends) in
    let decided = joined (decided_lines t hook packets) in
    let is = whole_trace t hook text.stop.items text.ends text.closing.items packets in
    let a = g.O.Sink.written c.args.out.now in
    let b = g.O.Sink.written c.write_all.new.self in
    at_stop whole text.stop.items told decided text.closing.items is a b (subst (AppendsUpTo a b) c.deref.ensures.value c.write_all.ensures.up_to)

pub returns-in_err-write_packets-clause-up_to : goal.returns-in_err-write_packets-clause-up_to
returns-in_err-write_packets-clause-up_to g c =
    let t = c.args.traced.now in
    let hook = c.args.hook in
    let packets = c.args.packets.now in
    let text = c.args.text.now in
    let whole = text_in (parts_with text.stop.items text.ends text.closing.items t hook packets) in
    let told = text_in (packet_parts t hook 1 packets text.ends) in
    let decided = joined (decided_lines t hook packets) in
    let is = whole_trace t hook text.stop.items text.ends text.closing.items packets in
    let a = g.O.Sink.written c.args.out.now in
    let b = g.O.Sink.written c.write_all.new.self in
    let d = g.O.Sink.written c.write_packets.new.out in
    let first = subst (Appended a b) c.deref.ensures.value c.in_ok-write_all.ensures.all in
    at_packets whole text.stop.items told decided text.closing.items is a b d first c.write_packets.ensures.up_to

pub returns-in_err-decided-clause-up_to : goal.returns-in_err-decided-clause-up_to
returns-in_err-decided-clause-up_to g c =
    let t = c.args.traced.now in
    let hook = c.args.hook in
    let packets = c.args.packets.now in
    let text = c.args.text.now in
    let whole = text_in (parts_with text.stop.items text.ends text.closing.items t hook packets) in
    let told = text_in (packet_parts t hook 1 packets text.ends) in
    let decided = joined (decided_lines t hook packets) in
    let is = whole_trace t hook text.stop.items text.ends text.closing.items packets in
    let a = g.O.Sink.written c.args.out.now in
    let b = g.O.Sink.written c.write_all.new.self in
    let d = g.O.Sink.written c.write_packets.new.out in
    let first = subst (Appended a b) c.deref.ensures.value c.in_ok-write_all.ensures.all in
    behind_packets whole text.stop.items told decided text.closing.items is a b d first c.in_ok-write_packets.ensures.all

pub returns-in_err-write_all-2-clause-up_to : goal.returns-in_err-write_all-2-clause-up_to
returns-in_err-write_all-2-clause-up_to g c =
    let t = c.args.traced.now in
    let hook = c.args.hook in
    let packets = c.args.packets.now in
    let text = c.args.text.now in
    let whole = text_in (parts_with text.stop.items text.ends text.closing.items t hook packets) in
    let told = text_in (packet_parts t hook 1 packets text.ends) in
    let decided = joined (decided_lines t hook packets) in
    let is = whole_trace t hook text.stop.items text.ends text.closing.items packets in
    let a = g.O.Sink.written c.args.out.now in
    let b = g.O.Sink.written c.write_all.new.self in
    let d = g.O.Sink.written c.write_packets.new.out in
    let first = subst (Appended a b) c.deref.ensures.value c.in_ok-write_all.ensures.all in
    let same = c.deref-2.ensures.value ∙ c.in_ok-decided.ensures packets c.in_ok-write_packets.ensures.tally in
    let e = g.O.Sink.written c.write_all-2.new.self in
    at_decided whole text.stop.items told decided text.closing.items is a b d e first c.in_ok-write_packets.ensures.all (subst (AppendsUpTo d e) same c.write_all-2.ensures.up_to)

pub returns-clause-all : goal.returns-clause-all
returns-clause-all g c =
    let t = c.args.traced.now in
    let hook = c.args.hook in
    let packets = c.args.packets.now in
    let text = c.args.text.now in
    let whole = text_in (parts_with text.stop.items text.ends text.closing.items t hook packets) in
    let told = text_in (packet_parts t hook 1 packets text.ends) in
    let decided = joined (decided_lines t hook packets) in
    let is = whole_trace t hook text.stop.items text.ends text.closing.items packets in
    let a = g.O.Sink.written c.args.out.now in
    let b = g.O.Sink.written c.write_all.new.self in
    let d = g.O.Sink.written c.write_packets.new.out in
    let first = subst (Appended a b) c.deref.ensures.value c.in_ok-write_all.ensures.all in
    let same = c.deref-2.ensures.value ∙ c.in_ok-decided.ensures packets c.in_ok-write_packets.ensures.tally in
    let e = g.O.Sink.written c.write_all-2.new.self in
    let third = subst (Appended d e) same c.in_ok-write_all-2.ensures.all in
    let f = g.O.Sink.written c.write_all-3.new.self in
    all_written whole text.stop.items told decided text.closing.items is c.write_all-3.result a b d e f first c.in_ok-write_packets.ensures.all third (renamed c.write_all-3.result e f c.deref-3.result.now text.closing.items c.deref-3.ensures.value c.write_all-3.ensures.all)

pub returns-clause-up_to : goal.returns-clause-up_to
returns-clause-up_to g c =
    let t = c.args.traced.now in
    let hook = c.args.hook in
    let packets = c.args.packets.now in
    let text = c.args.text.now in
    let whole = text_in (parts_with text.stop.items text.ends text.closing.items t hook packets) in
    let told = text_in (packet_parts t hook 1 packets text.ends) in
    let decided = joined (decided_lines t hook packets) in
    let is = whole_trace t hook text.stop.items text.ends text.closing.items packets in
    let a = g.O.Sink.written c.args.out.now in
    let b = g.O.Sink.written c.write_all.new.self in
    let d = g.O.Sink.written c.write_packets.new.out in
    let first = subst (Appended a b) c.deref.ensures.value c.in_ok-write_all.ensures.all in
    let same = c.deref-2.ensures.value ∙ c.in_ok-decided.ensures packets c.in_ok-write_packets.ensures.tally in
    let e = g.O.Sink.written c.write_all-2.new.self in
    let third = subst (Appended d e) same c.in_ok-write_all-2.ensures.all in
    let f = g.O.Sink.written c.write_all-3.new.self in
    at_closing whole text.stop.items told decided text.closing.items is a b d e f first c.in_ok-write_packets.ensures.all third (subst (AppendsUpTo e f) c.deref-3.ensures.value c.write_all-3.ensures.up_to)

pub write_packets-requires-clause-kept : goal.write_packets-requires-clause-kept
write_packets-requires-clause-kept g c = c.in_ok-room.ensures.kept c.args.traced.now c.args.hook
