use Rattle.std.proofs.Common.{◌+◌, ◌∷◌, drop, sym, ap, ◌∙◌}
use Rattle.std.proofs.lemmas.List.{drop_more}
use Rattle.std.proofs.lemmas.Option.{get_or_from_slice_get, slice_get_within}
use Rattle.pcap_io.specs.declared.capture.Packet.{Packet}
use Rattle.pcap_io.specs.Places.{packet_of}
use Rattle.pcap_io.proofs.packet_iter.PacketIterIterator.next.Goals as goal

pub returns-clause-steps : goal.returns-clause-steps
returns-clause-steps c =
    let packets = c.self.inside.packets.now in
    let i = c.self.inside.next in
    let packet = packet_of c.get-packet.result in
    let inside = slice_get_within packets i packet c.get-packet.ensures in
    sym c.self.view_is
    ∙ drop_more packets i packet inside
    ∙ ap (λ (p : Packet). p ∷ drop (i + 1) packets) (get_or_from_slice_get packets i packet packet c.get-packet.ensures)
