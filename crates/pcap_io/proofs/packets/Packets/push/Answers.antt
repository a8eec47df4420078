use Rattle.std.proofs.Common.{◌≡◌, ℕ, ◌+◌, ◌^◌, ◌<◌, ◌++◌, ◌∷◌, [], List, length, ap, subst, ◌∙◌, arith}
use Rattle.pcap_io.specs.Places.{packet_of, packet_in, IsWithin}
use Rattle.pcap_io.specs.Written.{packet_bytes}
use Rattle.pcap_io.proofs.Places.{packets_in-push, ArePlaced-push}
use Rattle.pcap_io.proofs.Spelled.{length-packet_bytes}
use Rattle.pcap_io.proofs.packets.Packets.push.Goals as goal

pub returns-clause-ok : goal.returns-clause-ok
returns-clause-ok c =
    let big = c.self.inside.big in
    let content = c.self.inside.content.items in
    let starts = c.self.inside.starts.items in
    let packet = packet_of c.args.packet in
    let start : length content ≡ c.in_ok-start.start = omega arith in
    let places : c.push.new.self.items ≡ starts ++ c.in_ok-start.start ∷ [] =
    c.in_ok-push.ensures.items ∙ ap (λ (all : List ℕ). all ++ c.in_ok-start.start ∷ []) c.in_ok-reserve.ensures.items in
    let stands : packet_in big (content ++ packet_bytes big packet) c.in_ok-start.start ≡ packet =
    subst (λ (all : List ℕ). packet_in big all c.in_ok-start.start ≡ packet) c.in_ok-put_packet.ensures.bytes
    (subst (λ (at : ℕ). packet_in big c.put_packet.new.out.items at ≡ packet) start c.in_ok-put_packet.ensures.stands) in
    rw (c.in_ok-put_packet.ensures.bytes, places, ← c.self.view_is)
    (packets_in-push big content (packet_bytes big packet) starts c.in_ok-start.start packet c.self.invariant.within stands)

pub invariant_of-self-2 : goal.invariant_of-self-2
invariant_of-self-2 c =
    let big = c.self.inside.big in
    let content = c.self.inside.content.items in
    let starts = c.self.inside.starts.items in
    let packet = packet_of c.args.packet in
    let start : length content ≡ c.in_ok-start.start = omega arith in
    let places : c.push.new.self.items ≡ starts ++ c.in_ok-start.start ∷ [] =
    c.in_ok-push.ensures.items ∙ ap (λ (all : List ℕ). all ++ c.in_ok-start.start ∷ []) c.in_ok-reserve.ensures.items in
    let stands : packet_in big (content ++ packet_bytes big packet) c.in_ok-start.start ≡ packet =
    subst (λ (all : List ℕ). packet_in big all c.in_ok-start.start ≡ packet) c.in_ok-put_packet.ensures.bytes
    (subst (λ (at : ℕ). packet_in big c.put_packet.new.out.items at ≡ packet) start c.in_ok-put_packet.ensures.stands) in
    let within : IsWithin big (content ++ packet_bytes big packet) c.in_ok-start.start =
    subst (λ (all : List ℕ). IsWithin big all c.in_ok-start.start) c.in_ok-put_packet.ensures.bytes
    (subst (λ (at : ℕ). IsWithin big c.put_packet.new.out.items at) start c.in_ok-put_packet.ensures.within) in
    let reached : length content + 16 + length packet.bytes < 2 ^ 32 = omega (arith, c.in_ok-start.ensures.reached) in
    rw (c.in_ok-put_packet.ensures.bytes, places)
    (ArePlaced-push big content (packet_bytes big packet) starts c.in_ok-start.start c.self.inside.captured packet c.self.invariant within stands (length-packet_bytes big packet) reached)
