use Rattle.std.proofs.Common.{◌≡◌, ◌∙◌, length, get_or, sym, ap, arith}
use Rattle.std.proofs.lemmas.List.{append-nil}
use Rattle.std.proofs.lemmas.Option.{get_or_from_slice_get}
use Rattle.pcap_io.specs.declared.capture.Packet.{Packet}
use Rattle.pcap_io.specs.Places.{packet_of}
use Rattle.pcap_io.specs.Written.{header_bytes, packet_bytes}
use Rattle.pcap_io.proofs.Stand.{one_more}
use Rattle.pcap_io.proofs.Places.{stands_as}
use Rattle.pcap_io.proofs.Spelled.{header_stands, length-header_bytes, length-packet_bytes, flat_map-one_more}
use Rattle.pcap_io.proofs.writing.write.Goals as goal

pub loop-index-init : goal.loop-index-init
loop-index-init c =
    let big = c.args.capture.now.big in
    let nanos = c.args.capture.now.nanos in
    let made = c.in_ok-put_header.ensures in
    let e : c.put_header.new.out.items ≡ header_bytes big nanos = rw c.in_ok-out.ensures.items at made in
    record {
      header = rw e (header_stands big nanos);
      stand = rw e (sym (length-header_bytes big nanos));
      bytes = e ∙ sym (append-nil (header_bytes big nanos));
    }

pub put_packet-requires : goal.put_packet-requires
put_packet-requires c =
    let packet = packet_of c.get.result in
    let packets = c.args.capture.now.packets in
    let item : get_or packets c.loop-index.index packet ≡ packet = get_or_from_slice_get packets c.loop-index.index packet packet c.get.ensures in
    let short = c.requires c.loop-index.index packet (omega arith) in
    omega (arith, ap (λ (p : Packet). length p.bytes) item)

pub loop-index-preserved : goal.loop-index-preserved
loop-index-preserved c =
    let packet = packet_of c.get.result in
    let packets = c.args.capture.now.packets in
    let big = c.args.capture.now.big in
    let item = sym (get_or_from_slice_get packets c.loop-index.index packet packet c.get.ensures) in
    let short = c.requires c.loop-index.index packet (omega arith) in
    let here = stands_as big c.put_packet.new.out.items (length c.loop-index.out.items) packet
    c.in_ok-put_packet.ensures.within c.in_ok-put_packet.ensures.stands (omega (arith, ap (λ (p : Packet). length p.bytes) item)) in
    let now = one_more big c.args.capture.now.nanos c.loop-index.out.items c.put_packet.new.out.items _ packets c.loop-index.index packet
    (omega arith) item c.in_ok-put_packet.ensures.bytes (length-packet_bytes big packet)
    c.loop-index.invariant.header c.loop-index.invariant.stand here in
    record {
      header = now.0;
      stand = now.1;
      bytes = flat_map-one_more (packet_bytes big) (header_bytes big c.args.capture.now.nanos) c.loop-index.out.items c.put_packet.new.out.items packets c.loop-index.index packet
          (omega arith) item c.in_ok-put_packet.ensures.bytes c.loop-index.invariant.bytes;
    }
