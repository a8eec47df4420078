use Rattle.std.proofs.Common.{◌≡◌, ℕ, ◌+◌, ◌++◌, ◌∷◌, [], List, map, length, sym, ap, subst, ◌∙◌, arith}
use Rattle.std.proofs.lemmas.List.{map_push}
use Rattle.pcap_io.specs.declared.capture.Packet.{Packet}
use Rattle.pcap_io.specs.Captures.{StandFrom}
use Rattle.pcap_io.specs.Places.{length_at, packet_in, ArePlaced, IsWithin}
use Rattle.pcap_io.proofs.Stand.{StandFrom-push}
use Rattle.pcap_io.proofs.Places.{within_from, length-packet_in, ArePlaced-more}
use Rattle.pcap_io.proofs.reading.starts_of.Goals as goal

pub loop-at-preserved : goal.loop-at-preserved
loop-at-preserved c =
    let big = c.args.big in
    let bytes = c.args.bytes.now in
    let starts = c.loop-at.starts.items in
    let at = c.loop-at.at in
    let captured = c.loop-at.captured in
    let here = c.in_ok-length.ensures.packet in
    let said = c.in_ok-length.ensures.captured in
    let inside : IsWithin big bytes at = within_from big bytes at here in
    let room = c.loop-at.invariant.room in
    let len : length (packet_in big bytes at).bytes ≡ length_at big bytes at = length-packet_in big bytes at inside in
    let next : at + 16 + length (packet_in big bytes at).bytes ≡ at + (16 + c.in_ok-length.field-0) = omega arith in
    let pushed = StandFrom-push big bytes 24 (map (packet_in big bytes) starts) at (packet_in big bytes at) c.loop-at.invariant.stand here in
    let placed = ArePlaced-more big bytes starts at captured c.loop-at.invariant.placed inside (omega arith) in
    let more : c.push.new.self.items ≡ starts ++ at ∷ [] = c.in_ok-push.ensures.items in
    record {
      stand = subst (λ (end : ℕ). StandFrom big bytes 24 (map (packet_in big bytes) c.push.new.self.items) end) next
          (subst (λ (packets : List Packet). StandFrom big bytes 24 packets (at + 16 + length (packet_in big bytes at).bytes))
          (sym (ap (map (packet_in big bytes)) more ∙ map_push (packet_in big bytes) starts at)) pushed);
      placed = subst (λ (n : ℕ). ArePlaced big bytes c.push.new.self.items (captured + n)) (sym said)
          (subst (λ (all : List ℕ). ArePlaced big bytes all (captured + length_at big bytes at)) (sym more) placed);
      within = omega arith;
      room = omega arith;
    }
