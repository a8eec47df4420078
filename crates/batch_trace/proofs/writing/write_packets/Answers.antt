use Rattle.std.proofs.Common.{rules, ◌≡◌, ◌∙◌, ◌+◌, ◌++◌, ◌∷◌, [], ◌≤◌, ℕ, List, length, Some, refl, sym, ap, subst, append_assoc, arith}
use Rattle.std.specs.Prelude.{slice_get}
use Rattle.std.proofs.lemmas.List.{append-nil, length_push}
use Rattle.tc_base.specs.Outside.{AppendsUpTo}
use Rattle.tc_base.proofs.Appends.{Appended-nil, Appended-then}
use Rattle.pcap_io.specs.Places.{packet_of}
use Rattle.capture_walk.specs.declared.ends.PacketEnd.{PacketEnd}
use Rattle.capture_walk.proofs.Walked.{short-at}
use Rattle.walk_trace.specs.Tallies.{count_at, times_in}
use Rattle.journal_names.specs.Known.{names_of}
use Rattle.trace_lines.specs.Lines.{decided_in}
use Rattle.batch_trace.specs.Traced.{text_in, packet_parts, steps_in}
use Rattle.batch_trace.proofs.Puts.{front_put, more_put, both_put, last_put, last_up_to}
use Rattle.batch_trace.proofs.Parts.{page_of, packets_rest, packets_more, no_packets, decided_more}
use Rattle.batch_trace.proofs.writing.write_packets.Goals as goal

pub loop-end-init : goal.loop-end-init
loop-end-init g c =
    let out = g.O.Sink.written c.args.out.now in
    record {
      whole = search rules;
      place = refl;
      wrote = ([], Appended-nil out, c.new-page.ensures.items ∙ sym (no_packets c.args.traced.now c.args.hook c.args.packets.now));
      tally = λ edit. c.requires.none edit;
      few = λ edit. let none = c.requires.none edit in omega (arith, none);
      kept = c.requires.kept;
      many = c.requires.many;
      later = omega arith;
    }

pub tell_packet-requires-clause-short : goal.tell_packet-requires-clause-short
tell_packet-requires-clause-short g c = short-at c.args.packets.now c.loop-end.place (packet_of c.get-packet.result) c.requires.short c.get-packet.ensures

pub tell_packet-requires-clause-kept : goal.tell_packet-requires-clause-kept
tell_packet-requires-clause-kept g c = c.loop-end.invariant.kept

pub tell_packet-requires-clause-many : goal.tell_packet-requires-clause-many
tell_packet-requires-clause-many g c = c.loop-end.invariant.many

pub returns-in_err-tell_packet-clause-up_to : goal.returns-in_err-tell_packet-clause-up_to
returns-in_err-tell_packet-clause-up_to g c =
    let t = c.args.traced.now in
    let hook = c.args.hook in
    let packets = c.args.packets.now in
    let before = c.loop-end.invariant in
    let walked = c.loop-end.yielded in
    let packet = packet_of c.get-packet.result in
    let there = subst (λ (k : ℕ). slice_get packets k ≡ Some packet) before.place c.get-packet.ensures in
    let whole = before.whole ∙ ap (λ (rest : List PacketEnd). walked ++ rest) c.in-Some.ensures.steps in
    let a = g.O.Sink.written c.args.out.now in
    let b = g.O.Sink.written c.loop-end.out in
    subst (λ (es : List PacketEnd). AppendsUpTo a b (text_in (packet_parts t hook 1 packets es))) (sym whole)
    (subst (AppendsUpTo a b) (sym (packets_rest t hook packets walked c.in-Some.end c.next.new.self packet there))
    (front_put a b before.wrote.0 _ _ _ before.wrote.1 before.wrote.2))

pub returns-in_err-put_text-clause-up_to : goal.returns-in_err-put_text-clause-up_to
returns-in_err-put_text-clause-up_to g c =
    let t = c.args.traced.now in
    let hook = c.args.hook in
    let packets = c.args.packets.now in
    let before = c.loop-end.invariant in
    let walked = c.loop-end.yielded in
    let end = c.in-Some.end in
    let packet = packet_of c.get-packet.result in
    let there = subst (λ (k : ℕ). slice_get packets k ≡ Some packet) before.place c.get-packet.ensures in
    let whole = before.whole ∙ ap (λ (rest : List PacketEnd). walked ++ rest) c.in-Some.ensures.steps in
    let place = before.place in
    let number : c.loop-end.place + 1 ≡ 1 + length walked = omega (arith, place) in
    let page = c.deref.ensures.value ∙ c.in_ok-tell_packet.ensures.text ∙ ap (λ (n : ℕ). page_of t hook n packet end) number in
    let a = g.O.Sink.written c.args.out.now in
    let b = g.O.Sink.written c.loop-end.out in
    let d = g.O.Sink.written c.put_text.new.out in
    subst (λ (es : List PacketEnd). AppendsUpTo a d (text_in (packet_parts t hook 1 packets es))) (sym whole)
    (subst (AppendsUpTo a d) (sym (packets_rest t hook packets walked end c.next.new.self packet there))
    (more_put a b d before.wrote.0 _ _ _ _ _ before.wrote.1 before.wrote.2 page c.put_text.ensures.up_to))

pub loop-end-preserved : goal.loop-end-preserved
loop-end-preserved g c =
    let t = c.args.traced.now in
    let hook = c.args.hook in
    let packets = c.args.packets.now in
    let before = c.loop-end.invariant in
    let walked = c.loop-end.yielded in
    let end = c.in-Some.end in
    let packet = packet_of c.get-packet.result in
    let there = subst (λ (k : ℕ). slice_get packets k ≡ Some packet) before.place c.get-packet.ensures in
    let place = before.place in
    let number : c.loop-end.place + 1 ≡ 1 + length walked = omega (arith, place) in
    let page = c.deref.ensures.value ∙ c.in_ok-tell_packet.ensures.text ∙ ap (λ (n : ℕ). page_of t hook n packet end) number in
    let a = g.O.Sink.written c.args.out.now in
    let b = g.O.Sink.written c.loop-end.out in
    let d = g.O.Sink.written c.put_text.new.out in
    record {
      whole = before.whole ∙ ap (λ (rest : List PacketEnd). walked ++ rest) c.in-Some.ensures.steps ∙ sym (append_assoc walked (end ∷ []) c.next.new.self);
      place = (let push = length_push walked end in omega (arith, place, push));
      wrote =
          let put = c.in_ok-put_text.ensures.all in (
            before.wrote.0 ++ put.0,
            Appended-then a b d _ _ before.wrote.1 put.1,
            both_put before.wrote.0 put.0 c.loop-end.page.items c.put_text.new.page.items _ _ _ before.wrote.2 put.2 page ∙ sym (packets_more t hook packets walked end packet there),
          );
      tally = λ edit. c.in_ok-tell_packet.ensures.tally edit
          ∙ ap (λ (n : ℕ). n + times_in (decided_in (names_of t) (steps_in t hook packet.bytes)) edit) (before.tally edit)
          ∙ sym (decided_more t hook packets c.loop-end.place packet edit c.get-packet.ensures);
      few = λ edit.
          let more : count_at c.tell_packet.new.tally edit ≤ count_at c.loop-end.tally edit + 65536 = c.in_ok-tell_packet.ensures.few edit in
          let few = before.few edit in
          omega (arith, more, few);
      kept = c.in_ok-tell_packet.ensures.kept;
      many = (let same = c.tell_packet.ensures.many in let before = before.many in omega (arith, same, before));
      later = omega (arith, c.put_text.ensures.later, before.later);
    }

pub returns-clause-all : goal.returns-clause-all
returns-clause-all g c =
    let before = c.loop-end.invariant in
    let walked = c.loop-end.yielded in
    let whole : c.args.ends.now ≡ walked = before.whole ∙ ap (λ (rest : List PacketEnd). walked ++ rest) c.in-None.ensures.steps.0 ∙ append-nil walked in
    let text = text_in (packet_parts c.args.traced.now c.args.hook 1 c.args.packets.now walked) in
    let a = g.O.Sink.written c.args.out.now in
    let b = g.O.Sink.written c.loop-end.out in
    let d = g.O.Sink.written c.write_all.new.self in
    last_put c.write_all.result a b d before.wrote.0 c.loop-end.page.items c.deref-2.result.now text _ before.wrote.1 before.wrote.2 c.deref-2.ensures.value
    (ap (λ (es : List PacketEnd). text_in (packet_parts c.args.traced.now c.args.hook 1 c.args.packets.now es)) whole) c.write_all.ensures.all

pub returns-clause-up_to : goal.returns-clause-up_to
returns-clause-up_to g c =
    let before = c.loop-end.invariant in
    let walked = c.loop-end.yielded in
    let whole : c.args.ends.now ≡ walked = before.whole ∙ ap (λ (rest : List PacketEnd). walked ++ rest) c.in-None.ensures.steps.0 ∙ append-nil walked in
    let text = text_in (packet_parts c.args.traced.now c.args.hook 1 c.args.packets.now walked) in
    let a = g.O.Sink.written c.args.out.now in
    let b = g.O.Sink.written c.loop-end.out in
    let d = g.O.Sink.written c.write_all.new.self in
    last_up_to a b d before.wrote.0 c.loop-end.page.items c.deref-2.result.now text _ before.wrote.1 before.wrote.2 c.deref-2.ensures.value
    (ap (λ (es : List PacketEnd). text_in (packet_parts c.args.traced.now c.args.hook 1 c.args.packets.now es)) whole) c.write_all.ensures.up_to
