use Rattle.std.proofs.Common.{◌∙◌, ◌+◌, ◌≤◌, length, drop, refl, sym, subst, arith}
use Rattle.pcap_io.specs.Places.{packet_of}
use Rattle.batch_trace.proofs.Passed.{short-at}
use Rattle.walk_trace.specs.Tallies.{count_at}
use Rattle.report_trace.specs.Writing.{ArePackets}
use Rattle.report_trace.proofs.Plain.{up_to_now}
use Rattle.report_trace.proofs.Packets.{left_at, next_of, next_at, on_at, decided_at_place, all_told, none_decided}
use Rattle.report_trace.proofs.writing.write_packets.Goals as goal

pub loop-place-init : goal.loop-place-init
loop-place-init g c = record {
  going = λ all are. are;
  tally = λ all are edit. refl;
  few = λ edit. omega arith;
  stand = c.requires.stand;
  many = refl;
  later = omega arith;
}

pub write_packet-requires-clause-short : goal.write_packet-requires-clause-short
write_packet-requires-clause-short g c = short-at c.args.packets.now c.loop-place.place (packet_of c.get.result) c.requires.short c.get.ensures

pub write_packet-requires-clause-room : goal.write_packet-requires-clause-room
write_packet-requires-clause-room g c = λ edit.
    let few = c.loop-place.invariant.few edit in
    let room = c.requires.room edit in
    let test = c.loop-place-test.true in
    let len = c.len-place-end.ensures in
    omega (arith, few, room, test, len)

pub write_packet-requires-clause-next : goal.write_packet-requires-clause-next
write_packet-requires-clause-next g c =
    let l = c.loop-place in
    let p = c.requires.packets in
    let it = next_at p.0 c.args.known.now (g.O.Sink.written l.out) l.behind.now l.place c.args.hook c.args.packets.now (packet_of c.get.result) (length l.walkers.items) (l.invariant.going p.0 p.1) c.get.ensures in
    (next_of (left_at p.0 l.place) c.args.known.now (l.place + 1) c.args.hook (drop (l.place + 1) c.args.packets.now) it.outcome it.outcomes, it.is_next)

pub returns-in_err-behind-clause-up_to : goal.returns-in_err-behind-clause-up_to
returns-in_err-behind-clause-up_to g c = λ all are.
    let l = c.loop-place in
    let it = next_at all c.args.known.now (g.O.Sink.written l.out) l.behind.now l.place c.args.hook c.args.packets.now (packet_of c.get.result) (length l.walkers.items) (l.invariant.going all are) c.get.ensures in
    c.write_packet.ensures.up_to (next_of (left_at all l.place) c.args.known.now (l.place + 1) c.args.hook (drop (l.place + 1) c.args.packets.now) it.outcome it.outcomes) it.is_next

pub loop-place-preserved : goal.loop-place-preserved
loop-place-preserved g c =
    let l = c.loop-place in
    let entries = c.args.known.now in
    let hook = c.args.hook in
    let packets = c.args.packets.now in
    let packet = packet_of c.get.result in
    let now = g.O.Sink.written l.out in
    let then = g.O.Sink.written c.write_packet.new.out in
    let there = c.get.ensures in
    record {
      going = λ all are.
          let here = l.invariant.going all are in
          let it = next_at all entries now l.behind.now l.place hook packets packet (length l.walkers.items) here there in
          subst (ArePackets (left_at all (l.place + 1)) entries then c.in_ok-behind.behind.now (l.place + 1 + 1) hook (drop (l.place + 1) packets)) (sym c.in_ok-behind.ensures.many)
          (on_at all entries now l.behind.now l.place hook packets packet (length l.walkers.items) here there then c.in_ok-behind.behind.now
          (c.in_ok-behind.ensures.behind (next_of (left_at all l.place) entries (l.place + 1) hook (drop (l.place + 1) packets) it.outcome it.outcomes) it.is_next));
      tally = λ all are edit.
          let here = l.invariant.going all are in
          let it = next_at all entries now l.behind.now l.place hook packets packet (length l.walkers.items) here there in
          let before = l.invariant.tally all are edit in
          let split = decided_at_place all entries now l.behind.now l.place hook packets packet (length l.walkers.items) here there edit in
          let one = c.in_ok-behind.ensures.tally (next_of (left_at all l.place) entries (l.place + 1) hook (drop (l.place + 1) packets) it.outcome it.outcomes) it.is_next edit in
          omega (arith, before, split, one);
      few = λ edit.
          let more : count_at c.write_packet.new.tally edit ≤ count_at l.tally edit + 65536 = c.in_ok-behind.ensures.few edit in
          let few = l.invariant.few edit in
          omega (arith, more, few);
      stand = c.in_ok-behind.ensures.stand;
      many = c.in_ok-behind.ensures.many ∙ l.invariant.many;
      later = omega (arith, c.write_packet.ensures.later, l.invariant.later);
    }

pub returns-clause-behind : goal.returns-clause-behind
returns-clause-behind g c = λ all are.
    let l = c.loop-place in
    let over = c.loop-place-test.false in
    let len = c.len-place-end.ensures in
    all_told all c.args.known.now (g.O.Sink.written l.out) l.behind.now c.args.hook c.args.packets.now (length l.walkers.items) l.place (omega (arith, over, len)) (l.invariant.going all are)

pub returns-clause-up_to : goal.returns-clause-up_to
returns-clause-up_to g c = λ all are.
    let l = c.loop-place in
    let over = c.loop-place-test.false in
    let len = c.len-place-end.ensures in
    let is = all_told all c.args.known.now (g.O.Sink.written l.out) l.behind.now c.args.hook c.args.packets.now (length l.walkers.items) l.place (omega (arith, over, len)) (l.invariant.going all are) in
    up_to_now _ _ _ _ is.written

pub returns-clause-tally : goal.returns-clause-tally
returns-clause-tally g c = λ all are edit.
    let l = c.loop-place in
    let over = c.loop-place-test.false in
    let len = c.len-place-end.ensures in
    let before = l.invariant.tally all are edit in
    let none = none_decided c.args.known.now c.args.hook c.args.packets.now (drop l.place all.outcomes) l.place edit (omega (arith, over, len)) in
    omega (arith, before, none)
