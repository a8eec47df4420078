use Rattle.std.proofs.Common.{◌≡◌, ℕ, ◌+◌, ◌-◌, ◌++◌, Bool, List, Some, take, drop, map, get_or, sym, ap, subst, ◌∙◌, arith}
use Rattle.std.specs.Result.{OnOk}
use Rattle.std.specs.List.{slice_get}
use Rattle.std.proofs.lemmas.Result.{on_ok_weaker}
use Rattle.tc_base.specs.Pieces.{joined}
use Rattle.pcap_io.specs.declared.capture.Packet.{Packet}
use Rattle.pcap_io.specs.Places.{packet_of, packet_in, length_at}
use Rattle.pcap_io.specs.Written.{packet_bytes}
use Rattle.pcap_io.specs.Excerpts.{Excerpted}
use Rattle.pcap_io.proofs.Stretches.{packet_from}
use Rattle.pcap_io.proofs.excerpt.Excerpt.keep.Goals as goal

pub returns-then-self-clause-bytes : goal.returns-then-self-clause-bytes
returns-then-self-clause-bytes c = λ packet at.
    let inside = c.self.inside in
    let content = inside.content.now in
    let start = get_or inside.starts.now c.args.index 0 in
    let here : slice_get (map (packet_in inside.buffer_big content) inside.starts.now) c.args.index ≡ Some packet =
    subst (λ (e : Excerpted). slice_get e.of.packets c.args.index ≡ Some packet) (sym c.self.view_is) at in
    let is : packet_of c.view_at-packet.result ≡ packet = c.view_at-packet.ensures ∙ packet_from inside.buffer_big content inside.starts.now c.args.index packet here in
    subst (λ (p : Packet). OnOk c.push.result (c.push.new.self.bytes ≡ c.args.self.now.bytes ++ packet_bytes c.args.self.now.of.big p)) is c.push.ensures.bytes

pub returns-clause-bytes : goal.returns-clause-bytes
returns-clause-bytes c = λ packet at.
    let inside = c.self.inside in
    let content = inside.content.now in
    let start = get_or inside.starts.now c.args.index 0 in
    let here : slice_get (map (packet_in inside.buffer_big content) inside.starts.now) c.args.index ≡ Some packet =
    subst (λ (e : Excerpted). slice_get e.of.packets c.args.index ≡ Some packet) (sym c.self.view_is) at in
    let same : inside.buffer_big ≡ inside.big = grind (arith, c.if-self.false) in
    let is : packet_in inside.big content start ≡ packet =
    ap (λ (b : Bool). packet_in b content start) (sym same) ∙ packet_from inside.buffer_big content inside.starts.now c.args.index packet here in
    let before : joined inside.pieces.pieces ≡ c.args.self.now.bytes = ap (λ (e : Excerpted). e.bytes) c.self.view_is in
    let big : inside.big ≡ c.args.self.now.of.big = ap (λ (e : Excerpted). e.of.big) c.self.view_is in
    let end : c.record_end-end.result - start ≡ 16 + length_at inside.big content start = omega (arith, c.record_end-end.ensures.end) in
    let stretch : take (c.record_end-end.result - start) (drop start inside.pieces.lent) ≡ packet_bytes c.args.self.now.of.big packet =
    ap (λ (xs : List ℕ). take (c.record_end-end.result - start) (drop start xs)) c.self.invariant.lent
    ∙ ap (λ (n : ℕ). take n (drop start content)) end
    ∙ c.record_end-end.ensures.bytes
    ∙ ap (packet_bytes inside.big) is
    ∙ ap (λ (b : Bool). packet_bytes b packet) big in
    on_ok_weaker c.lend.result
    (λ e. e ∙ ap (λ (xs : List ℕ). xs ++ take (c.record_end-end.result - start) (drop start inside.pieces.lent)) before
    ∙ ap (λ (xs : List ℕ). c.args.self.now.bytes ++ xs) stretch)
    c.lend.ensures.ok
