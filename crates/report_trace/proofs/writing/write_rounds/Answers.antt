use Rattle.std.proofs.Common.{◌∙◌, ◌+◌, ◌≤◌, ◌*◌, length, drop, refl, sym, ap, subst, arith}
use Rattle.pcap_io.specs.declared.capture.Capture.{Capture}
use Rattle.pcap_io.specs.Captures.{AreShort}
use Rattle.filter_state.specs.Sound.{Each}
use Rattle.lawful_runs.specs.Given.{packet_count}
use Rattle.walk_trace.specs.Tallies.{count_at}
use Rattle.report_trace.proofs.Plain.{up_to_now}
use Rattle.report_trace.proofs.RoundsAt.{first_stands, none_here, all_packets, some_here, up_to_here, behind_here, later_short, later_few, all_each, all_stand, none_stand}
use Rattle.report_trace.proofs.writing.write_rounds.Goals as goal

pub returns-in_err-room-clause-up_to : goal.returns-in_err-room-clause-up_to
returns-in_err-room-clause-up_to g c = λ all are. up_to_now all.first (g.O.Sink.written c.args.out.now) all.whole _ are.behind.written

pub loop-round-init : goal.loop-round-init
loop-round-init g c = record {
  going = λ all are.
      all_stand all c.args.known.now (g.O.Sink.written c.args.out.now) c.args.left.now c.args.job.now.job.rounds c.as_slice-rounds.result.now c.args.job.now.captures c.as_slice-captures.result.now (length c.args.walkers.now.items) c.args.tally.now
      c.as_slice-rounds.ensures c.as_slice-captures.ensures c.requires.none are;
  few = λ edit.
      let none = c.requires.none edit in
      let same = ap packet_count c.as_slice-captures.ensures in
      let all : packet_count c.args.job.now.captures ≤ 1048576 = c.requires.loaded.packets in
      omega (arith, none, same, all);
  short = subst (Each (λ (capture : Capture). AreShort capture.packets)) (sym c.as_slice-captures.ensures) (all_each (λ (capture : Capture). AreShort capture.packets) c.args.job.now.captures c.requires.loaded.frames);
  stand = c.requires.stand;
  many = refl;
  later = omega arith;
}

pub loop-round-preserved-in_default : goal.loop-round-preserved-in_default
loop-round-preserved-in_default g c =
    let l = c.loop-round in
    let rounds = c.as_slice-rounds.result.now in
    let d = c.round-item.result in
    let none = c.in_default.ensures.none in
    record {
      going = λ all are.
          none_here all c.args.known.now (g.O.Sink.written l.out) l.behind.now (l.round-index + 1) d (drop (l.round-index + 1) rounds) l.captures.now l.captures.now (length l.walkers.items) l.tally _
          (first_stands all c.args.known.now (g.O.Sink.written l.out) l.behind.now (l.round-index + 1) rounds l.round-index d l.captures.now (length l.walkers.items) l.tally _ c.loop-round-test.true c.round-item.is (l.invariant.going all are))
          none.1 none.0;
      few = l.invariant.few;
      short = l.invariant.short;
      stand = l.invariant.stand;
      many = l.invariant.many;
      later = l.invariant.later;
    }

pub write_packets-requires-clause-room : goal.write_packets-requires-clause-room
write_packets-requires-clause-room g c = λ edit.
    let l = c.loop-round in
    let few = l.invariant.few edit in
    let sum = later_few c.in-Some.capture.now l.captures.now c.in-Some.later.now c.in-Some.ensures.some.2 in
    omega (arith, few, sum)

pub write_packets-requires-clause-packets : goal.write_packets-requires-clause-packets
write_packets-requires-clause-packets g c =
    let l = c.loop-round in
    let rounds = c.as_slice-rounds.result.now in
    let d = c.round-item.result in
    let some = c.in-Some.ensures.some in
    let p = c.requires.rounds in
    let it = first_stands p.0 c.args.known.now (g.O.Sink.written l.out) l.behind.now (l.round-index + 1) rounds l.round-index d l.captures.now (length l.walkers.items) l.tally _ c.loop-round-test.true c.round-item.is (l.invariant.going p.0 p.1) in (
      all_packets p.0 c.args.known.now (g.O.Sink.written l.out) l.behind.now (l.round-index + 1) d (drop (l.round-index + 1) rounds) l.captures.now c.in-Some.later.now (length l.walkers.items) l.tally _ it some.1,
      some_here p.0 c.args.known.now (g.O.Sink.written l.out) l.behind.now (l.round-index + 1) d (drop (l.round-index + 1) rounds) l.captures.now c.in-Some.later.now (length l.walkers.items) l.tally _ it some.1
          c.in-Some.hook c.in-Some.capture.now.packets some.0,
    )

pub returns-in_err-behind-clause-up_to : goal.returns-in_err-behind-clause-up_to
returns-in_err-behind-clause-up_to g c = λ all are.
    let l = c.loop-round in
    let rounds = c.as_slice-rounds.result.now in
    let d = c.round-item.result in
    let some = c.in-Some.ensures.some in
    let it = first_stands all c.args.known.now (g.O.Sink.written l.out) l.behind.now (l.round-index + 1) rounds l.round-index d l.captures.now (length l.walkers.items) l.tally _ c.loop-round-test.true c.round-item.is (l.invariant.going all are) in
    up_to_here all c.args.known.now (g.O.Sink.written l.out) l.behind.now (l.round-index + 1) d (drop (l.round-index + 1) rounds) l.captures.now c.in-Some.later.now (length l.walkers.items) l.tally _ it some.1 (g.O.Sink.written c.write_packets.new.out)
    (c.write_packets.ensures.up_to (all_packets all c.args.known.now (g.O.Sink.written l.out) l.behind.now (l.round-index + 1) d (drop (l.round-index + 1) rounds) l.captures.now c.in-Some.later.now (length l.walkers.items) l.tally _ it some.1)
    (some_here all c.args.known.now (g.O.Sink.written l.out) l.behind.now (l.round-index + 1) d (drop (l.round-index + 1) rounds) l.captures.now c.in-Some.later.now (length l.walkers.items) l.tally _ it some.1
    c.in-Some.hook c.in-Some.capture.now.packets some.0))

pub loop-round-preserved : goal.loop-round-preserved
loop-round-preserved g c =
    let l = c.loop-round in
    let rounds = c.as_slice-rounds.result.now in
    let d = c.round-item.result in
    let some = c.in-Some.ensures.some in
    let sum = later_few c.in-Some.capture.now l.captures.now c.in-Some.later.now some.2 in
    record {
      going = λ all are.
          let it = first_stands all c.args.known.now (g.O.Sink.written l.out) l.behind.now (l.round-index + 1) rounds l.round-index d l.captures.now (length l.walkers.items) l.tally _ c.loop-round-test.true c.round-item.is (l.invariant.going all are) in
          let packets = all_packets all c.args.known.now (g.O.Sink.written l.out) l.behind.now (l.round-index + 1) d (drop (l.round-index + 1) rounds) l.captures.now c.in-Some.later.now (length l.walkers.items) l.tally _ it some.1 in
          let left = some_here all c.args.known.now (g.O.Sink.written l.out) l.behind.now (l.round-index + 1) d (drop (l.round-index + 1) rounds) l.captures.now c.in-Some.later.now (length l.walkers.items) l.tally _ it some.1
          c.in-Some.hook c.in-Some.capture.now.packets some.0 in
          behind_here all c.args.known.now (g.O.Sink.written l.out) l.behind.now (l.round-index + 1) d (drop (l.round-index + 1) rounds) l.captures.now c.in-Some.later.now (length l.walkers.items) l.tally _ it some.1
          c.in-Some.hook c.in-Some.capture.now.packets some.0 (g.O.Sink.written c.write_packets.new.out) c.in_ok-behind.behind.now c.write_packets.new.tally (length c.write_packets.new.walkers.items) c.in_ok-behind.ensures.many
          (c.in_ok-behind.ensures.behind packets left) (λ edit. c.in_ok-behind.ensures.tally packets left edit);
      few = λ edit.
          let more : count_at c.write_packets.new.tally edit ≤ count_at l.tally edit + length c.in-Some.capture.now.packets * 65536 = c.in_ok-behind.ensures.few edit in
          let few = l.invariant.few edit in
          omega (arith, more, few, sum);
      short = (later_short (λ (capture : Capture). AreShort capture.packets) c.in-Some.capture.now l.captures.now c.in-Some.later.now some.2 l.invariant.short).1;
      stand = c.in_ok-behind.ensures.stand;
      many = c.in_ok-behind.ensures.many ∙ l.invariant.many;
      later = omega (arith, c.write_packets.ensures.later, l.invariant.later);
    }

pub returns-clause-behind : goal.returns-clause-behind
returns-clause-behind g c = λ all are.
    let l = c.loop-round in
    (none_stand all c.args.known.now (g.O.Sink.written l.out) l.behind.now (l.round-index + 1) c.as_slice-rounds.result.now l.captures.now (length l.walkers.items) l.tally _ l.round-index (let end = c.loop-round-test.false in omega (arith, end)) (l.invariant.going all are)).0

pub returns-clause-up_to : goal.returns-clause-up_to
returns-clause-up_to g c = λ all are.
    let l = c.loop-round in
    let it = (none_stand all c.args.known.now (g.O.Sink.written l.out) l.behind.now (l.round-index + 1) c.as_slice-rounds.result.now l.captures.now (length l.walkers.items) l.tally _ l.round-index (let end = c.loop-round-test.false in omega (arith, end)) (l.invariant.going all are)).0 in
    up_to_now all.first (g.O.Sink.written l.out) all.whole _ it.written

pub returns-clause-tally : goal.returns-clause-tally
returns-clause-tally g c = λ all are.
    let l = c.loop-round in
    (none_stand all c.args.known.now (g.O.Sink.written l.out) l.behind.now (l.round-index + 1) c.as_slice-rounds.result.now l.captures.now (length l.walkers.items) l.tally _ l.round-index (let end = c.loop-round-test.false in omega (arith, end)) (l.invariant.going all are)).1
