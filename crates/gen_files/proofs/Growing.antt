-- One filter and one packet more.
use Rattle.std.proofs.Common.{◌≡◌, ◌∙◌, ℕ, ◌+◌, ◌*◌, ◌%◌, ◌≤◌, List, [], ◌∷◌, ◌++◌, length, refl, sym, ap, subst, append_assoc, arith}
use Rattle.std.specs.Prelude.{codes}
use Rattle.std.specs.List.{flat_map}
use Rattle.std.proofs.lemmas.List.{append-nil}
use Rattle.std.proofs.lemmas.List.Concat.{flat_map-cons}
use Rattle.std.proofs.lemmas.List.FromFn.{map-range_with_len_more}
use Rattle.std.proofs.lemmas.List.Elements.{All-push}
use Rattle.std.proofs.lemmas.Grind.{flat_map-append}
use Rattle.pcap_io.specs.declared.capture.Packet.{Packet}
use Rattle.pcap_io.specs.Captures.{AreShort}
use Rattle.gen_files.specs.Generated.{filter_line, filter_lines, batch_text, frame_to, packet_of, first_packets}

abbrev joined : List (List ℕ) → List ℕ
joined lines = flat_map (λ (line : List ℕ). line) lines

joined-push : (lines : List (List ℕ)) (line : List ℕ) → joined (lines ++ line ∷ []) ≡ joined lines ++ line
joined-push lines line =
    flat_map-append (λ (l : List ℕ). l) lines (line ∷ [])
    ∙ ap (λ (x : List ℕ). joined lines ++ x) (flat_map-cons (λ (l : List ℕ). l) line [] ∙ append-nil line)

pub batch_more : (n : ℕ) → batch_text (n + 1) ≡ batch_text n ++ filter_line n
batch_more n =
    ap (λ (lines : List (List ℕ)). codes "qdisc add dev eth0 clsact\n" ++ joined lines) (map-range_with_len_more filter_line 0 n n (omega arith))
    ∙ ap (λ (x : List ℕ). codes "qdisc add dev eth0 clsact\n" ++ x) (joined-push (filter_lines n) (filter_line n))
    ∙ sym (append_assoc (codes "qdisc add dev eth0 clsact\n") (joined (filter_lines n)) (filter_line n))

pub packets_more : (filters n : ℕ) → first_packets filters (n + 1) ≡ first_packets filters n ++ packet_of filters n ∷ []
packets_more filters n = map-range_with_len_more (λ (j : ℕ). packet_of filters j) 0 n n (omega arith)

-- a packet with such a frame, behind those that were made
pub pushed : (filters n : ℕ) (old new : List Packet) (bytes : List ℕ) → new ≡ old ++ record { seconds = n; fraction = 0; original = 60; bytes = bytes } ∷ [] → bytes ≡ frame_to (n % (2 * filters))
    → old ≡ first_packets filters n → new ≡ first_packets filters (n + 1)
pushed filters n old new bytes is frame so_far =
    is ∙ ap (λ (b : List ℕ). old ++ record { seconds = n; fraction = 0; original = 60; bytes = b } ∷ []) frame
    ∙ ap (λ (packets : List Packet). packets ++ packet_of filters n ∷ []) so_far ∙ sym (packets_more filters n)

frame_length : (i : ℕ) → length (frame_to i) ≡ 60
frame_length i = refl

pub still_short : (i : ℕ) (old new : List Packet) (packet : Packet) → new ≡ old ++ packet ∷ [] → packet.bytes ≡ frame_to i → AreShort old → AreShort new
still_short i old new packet is frame short =
    let long : length packet.bytes ≡ 60 = ap length frame ∙ frame_length i in
    subst (λ (packets : List Packet). AreShort packets) (sym is) (All-push (λ (p : Packet). length p.bytes ≤ 262144) old packet short (omega (arith, long)))
