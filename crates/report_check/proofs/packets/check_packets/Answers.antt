use Rattle.std.proofs.Common.{rules, ◌≡◌, Bool, true, false, Ok, ap, arith}
use Rattle.pcap_io.specs.Places.{packet_of}
use Rattle.report_check.proofs.Arriving.{next_packet}
use Rattle.report_check.proofs.packets.check_packets.Goals as goal

pub check_packet-requires-clause-packet : goal.check_packet-requires-clause-packet
check_packet-requires-clause-packet c =
    let p = c.requires.packets in
    let l = c.loop-place in
    (p.0, next_packet p.0 c.args.report.now c.args.cursor.now l.cursor c.args.replay.now c.args.walkers.now l.walkers c.args.least l.place c.args.hook c.args.packets.now (packet_of c.get.result) p.1 (l.invariant.going p.0 p.1) c.get.ensures)

pub returns-then-not-branch-clause-stuck : goal.returns-then-not-branch-clause-stuck
returns-then-not-branch-clause-stuck c = λ is told it.
    let l = c.loop-place in
    let no : c.in_ok-check_packet.field-0 ≡ false = search rules in
    c.in_ok-check_packet.ensures.stuck (ap (λ (b : Bool). Ok b) no) told
    (next_packet told c.args.report.now c.args.cursor.now l.cursor c.args.replay.now c.args.walkers.now l.walkers c.args.least l.place c.args.hook c.args.packets.now (packet_of c.get.result) it (l.invariant.going told it) c.get.ensures)

pub loop-place-preserved : goal.loop-place-preserved
loop-place-preserved c = record {
  within = c.in_ok-check_packet.ensures.within;
  onward =
      let yes : c.in_ok-check_packet.field-0 ≡ true = search rules in
      let one = c.in_ok-check_packet.ensures.further (ap (λ (b : Bool). Ok b) yes) in
      let before = c.loop-place.invariant.onward in
      omega (arith, one, before);
  going = λ told it.
      let l = c.loop-place in
      let yes : c.in_ok-check_packet.field-0 ≡ true = search rules in
      c.in_ok-check_packet.ensures.taken (ap (λ (b : Bool). Ok b) yes) told
      (next_packet told c.args.report.now c.args.cursor.now l.cursor c.args.replay.now c.args.walkers.now l.walkers c.args.least l.place c.args.hook c.args.packets.now (packet_of c.get.result) it (l.invariant.going told it) c.get.ensures);
}
