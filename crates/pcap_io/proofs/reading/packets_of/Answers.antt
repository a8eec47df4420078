use Rattle.std.proofs.Common.{ℕ, List, map, sym, ap, subst, ◌∙◌}
use Rattle.pcap_io.specs.declared.capture.Packet.{Packet}
use Rattle.pcap_io.specs.Captures.{AreShort}
use Rattle.pcap_io.specs.Places.{packet_in}
use Rattle.pcap_io.proofs.Stand.{StandFrom-short}
use Rattle.pcap_io.proofs.reading.packets_of.Goals as goal

pub returns-clause-short : goal.returns-clause-short
returns-clause-short c =
    let bytes = c.deref.result.now in
    subst (λ (packets : List Packet). AreShort packets)
    (ap (λ (content : List ℕ). map (packet_in c.args.big content) c.in_ok-starts.starts.items) c.deref.ensures.value ∙ sym c.over.ensures)
    (StandFrom-short c.args.big bytes 24 _ _ c.in_ok-starts.ensures.packets)
