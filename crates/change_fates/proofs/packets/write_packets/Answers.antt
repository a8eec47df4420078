use Rattle.std.proofs.Common.{◌≡◌, ◌∙◌, ◌++◌, ℕ, List, refl, ap, subst, arith}
use Rattle.pcap_io.specs.Places.{packet_of}
use Rattle.change_fates.specs.Told.{counts_of}
use Rattle.change_fates.specs.Paging.{IsOnPage}
use Rattle.change_fates.proofs.Paging.{on_front}
use Rattle.change_fates.proofs.PacketLines.{few, no_packet, all_kinds, next_packet, next_counts, short_at}
use Rattle.change_fates.proofs.packets.write_packets.Goals as goal

pub loop-place-init : goal.loop-place-init
loop-place-init g c = record { going = λ first whole rest at. at; counts = c.none-counts.ensures; later = omega arith }

pub write_packet-requires : goal.write_packet-requires
write_packet-requires g c = record { short = short_at c.args.packets.now c.loop-place.place (packet_of c.get-packet.result) c.requires.short c.get-packet.ensures }

pub returns-in_err-finding-clause-up_to : goal.returns-in_err-finding-clause-up_to
returns-in_err-finding-clause-up_to g c = λ first whole rest at. on_front first _ whole _ _ at

pub returns-in_err-kind-clause-up_to : goal.returns-in_err-kind-clause-up_to
returns-in_err-kind-clause-up_to g c = λ first whole rest at.
    c.write_packet.ensures.up_to first whole _
    (next_packet c.args.known.now c.args.packets.now c.loop-place.place (packet_of c.get-packet.result) first _ whole _ rest c.get-packet.ensures (c.loop-place.invariant.going first whole rest at))

pub add-requires : goal.add-requires
add-requires g c =
    let l = c.loop-place in
    let test = c.loop-place-test.true in
    let len = c.len-place-end.ensures in
    let total = few c.args.known.now c.args.packets.now l.counts l.place l.invariant.counts (omega (arith, test, len)) c.requires.few in
    omega (arith, total)

pub loop-place-preserved : goal.loop-place-preserved
loop-place-preserved g c =
    let l = c.loop-place in
    let packet = packet_of c.get-packet.result in
    record {
      going = λ first whole rest at.
          c.in_ok-kind.ensures.on first whole _ (next_packet c.args.known.now c.args.packets.now l.place packet first _ whole _ rest c.get-packet.ensures (l.invariant.going first whole rest at));
      counts = next_counts c.args.known.now c.args.packets.now l.place packet l.counts c.add.new.self c.in_ok-kind.kind c.get-packet.ensures c.in_ok-kind.ensures.kind l.invariant.counts c.add.ensures;
      later = omega (arith, c.write_packet.ensures.later, l.invariant.later);
    }

pub returns-clause-counts : goal.returns-clause-counts
returns-clause-counts g c =
    let l = c.loop-place in
    let over = c.loop-place-test.false in
    let len = c.len-place-end.ensures in
    l.invariant.counts ∙ ap counts_of (all_kinds c.args.known.now c.args.packets.now l.place (omega (arith, over, len)))

pub returns-clause-on : goal.returns-clause-on
returns-clause-on g c = λ first whole rest at.
    let l = c.loop-place in
    let over = c.loop-place-test.false in
    let len = c.len-place-end.ensures in
    subst (λ (xs : List ℕ). IsOnPage first (g.O.Sink.written l.out) whole l.room.page (xs ++ rest)) (no_packet c.args.known.now c.args.packets.now l.place (omega (arith, over, len)))
    (l.invariant.going first whole rest at)

pub returns-clause-up_to : goal.returns-clause-up_to
returns-clause-up_to g c = λ first whole rest at. on_front first _ whole _ _ (c.loop-place.invariant.going first whole rest at)
