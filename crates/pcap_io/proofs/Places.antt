-- Packets in one buffer: more bytes behind them change none of them.
use Rattle.std.proofs.Common.{◌≡◌, ℕ, ◌+◌, ◌^◌, ◌<◌, ◌≤◌, Bool, List, [], ◌∷◌, ◌++◌, length, take, drop, map, All, refl, sym, ap, subst, ◌∙◌, arith}
use Rattle.std.specs.List.{sum_by}
use Rattle.std.proofs.lemmas.List.{length-append, length-drop, length-take-le, drop-append-le, take-append-le, map_push}
use Rattle.std.proofs.lemmas.List.Elements.{All-head, All-tail, All-push, All-weaker}
use Rattle.std.proofs.lemmas.List.Sums.{sum_by-cons, sum_by_push}
use Rattle.pcap_io.specs.declared.capture.Packet.{Packet}
use Rattle.pcap_io.specs.Captures.{IsPacketAt}
use Rattle.pcap_io.specs.Places.{length_at, packet_in, IsWithin, ArePlaced}
use Rattle.pcap_io.proofs.Stand.{number_at-append}

abbrev pub made : ℕ → ℕ → ℕ → List ℕ → Packet
made seconds fraction original bytes = record { seconds = seconds; fraction = fraction; original = original; bytes = bytes }

pub same_made : (s t f g o q : ℕ) (b d : List ℕ) → s ≡ t → f ≡ g → o ≡ q → b ≡ d → made s f o b ≡ made t g q d
same_made s t f g o q b d seconds fraction original bytes =
    ap (λ (x : ℕ). made x f o b) seconds ∙ ap (λ (x : ℕ). made t x o b) fraction ∙ ap (λ (x : ℕ). made t g x b) original ∙ ap (made t g q) bytes

length_at-append : (big : Bool) (content more : List ℕ) (start : ℕ) → start + 16 ≤ length content → length_at big (content ++ more) start ≡ length_at big content start
length_at-append big content more start within = number_at-append big 4 (start + 8) content more (omega arith)

within-append : (big : Bool) (content more : List ℕ) (start : ℕ) → IsWithin big content start → IsWithin big (content ++ more) start
within-append big content more start within =
    let longer = length-append content more in
    let same = length_at-append big content more start (omega arith) in
    omega arith

packet_in-append : (big : Bool) (content more : List ℕ) (start : ℕ) → IsWithin big content start → packet_in big (content ++ more) start ≡ packet_in big content start
packet_in-append big content more start within =
    let said = length_at big content start in
    let rest = drop (start + 16) content in
    let bytes : take (length_at big (content ++ more) start) (drop (start + 16) (content ++ more)) ≡ take said rest =
    ap (λ (n : ℕ). take n (drop (start + 16) (content ++ more))) (length_at-append big content more start (omega arith))
    ∙ ap (take said) (drop-append-le (start + 16) content more (omega arith))
    ∙ take-append-le said rest more (omega (arith, length-drop (start + 16) content)) in
    same_made _ _ _ _ _ _ _ _
    (number_at-append big 4 start content more (omega arith))
    (number_at-append big 4 (start + 4) content more (omega arith))
    (number_at-append big 4 (start + 12) content more (omega arith))
    bytes

-- the packets that lie in the buffer already
packets_in-append : (big : Bool) (content more starts : List ℕ) → All (IsWithin big content) starts → map (packet_in big (content ++ more)) starts ≡ map (packet_in big content) starts
packets_in-append big content more [] within = refl
packets_in-append big content more (p ∷ ps) within =
    let head = packet_in-append big content more p (All-head (IsWithin big content) p ps within) in
    let tail = packets_in-append big content more ps (All-tail (IsWithin big content) p ps within) in
    ap (λ (x : Packet). x ∷ map (packet_in big (content ++ more)) ps) head ∙ ap (λ (xs : List Packet). packet_in big content p ∷ xs) tail

lengths-append : (big : Bool) (content more starts : List ℕ) → All (IsWithin big content) starts → sum_by (length_at big (content ++ more)) starts ≡ sum_by (length_at big content) starts
lengths-append big content more [] within = refl
lengths-append big content more (p ∷ ps) within =
    let inside : IsWithin big content p = All-head (IsWithin big content) p ps within in
    let one = length_at-append big content more p (omega arith) in
    let rest = lengths-append big content more ps (All-tail (IsWithin big content) p ps within) in
    let left = sum_by-cons (length_at big (content ++ more)) p ps in
    let right = sum_by-cons (length_at big content) p ps in
    omega arith

-- one more packet at the end
pub packets_in-push : (big : Bool) (content more starts : List ℕ) (start : ℕ) (p : Packet) → All (IsWithin big content) starts → packet_in big (content ++ more) start ≡ p
    → map (packet_in big (content ++ more)) (starts ++ start ∷ []) ≡ map (packet_in big content) starts ++ p ∷ []
packets_in-push big content more starts start p within last =
    map_push (packet_in big (content ++ more)) starts start
    ∙ ap (λ (xs : List Packet). xs ++ packet_in big (content ++ more) start ∷ []) (packets_in-append big content more starts within)
    ∙ ap (λ (x : Packet). map (packet_in big content) starts ++ x ∷ []) last

-- what is in a place of the buffer is as long as its record says
pub length-packet_in : (big : Bool) (content : List ℕ) (start : ℕ) → IsWithin big content start → length (packet_in big content start).bytes ≡ length_at big content start
length-packet_in big content start within =
    length-take-le (length_at big content start) (drop (start + 16) content) (omega (arith, length-drop (start + 16) content))

pub ArePlaced-push : (big : Bool) (content more starts : List ℕ) (start captured : ℕ) (p : Packet) → ArePlaced big content starts captured
    → IsWithin big (content ++ more) start → packet_in big (content ++ more) start ≡ p → length more ≡ 16 + length p.bytes → length content + 16 + length p.bytes < 2 ^ 32
    → ArePlaced big (content ++ more) (starts ++ start ∷ []) (captured + length p.bytes)
ArePlaced-push big content more starts start captured p placed here is len reached =
    let longer = length-append content more in
    let total = placed.total in
    let room = placed.room in
    let same = lengths-append big content more starts placed.within in
    let last : length p.bytes ≡ length_at big (content ++ more) start = ap (λ (q : Packet). length q.bytes) (sym is) ∙ length-packet_in big (content ++ more) start here in
    let pushed = sum_by_push (length_at big (content ++ more)) starts start in
    record {
      within = All-push (IsWithin big (content ++ more)) starts start
          (All-weaker (IsWithin big content) (IsWithin big (content ++ more)) (within-append big content more) starts placed.within) here;
      total = omega arith;
      room = omega arith;
      reached = omega arith;
    }

-- one more place of the same buffer
pub ArePlaced-more : (big : Bool) (content starts : List ℕ) (start captured : ℕ) → ArePlaced big content starts captured
    → IsWithin big content start → captured + length_at big content start ≤ length content
    → ArePlaced big content (starts ++ start ∷ []) (captured + length_at big content start)
ArePlaced-more big content starts start captured placed here room =
    let total = placed.total in
    let pushed = sum_by_push (length_at big content) starts start in
    record {
      within = All-push (IsWithin big content) starts start placed.within here;
      total = omega arith;
      room = room;
      reached = placed.reached;
    }

-- the lengths of the packets are those that their records say
pub sum_by-packets_in : (big : Bool) (content starts : List ℕ) → All (IsWithin big content) starts
    → sum_by (λ (p : Packet). length p.bytes) (map (packet_in big content) starts) ≡ sum_by (length_at big content) starts
sum_by-packets_in big content [] within = refl
sum_by-packets_in big content (p ∷ ps) within =
    let one = length-packet_in big content p (All-head (IsWithin big content) p ps within) in
    let rest = sum_by-packets_in big content ps (All-tail (IsWithin big content) p ps within) in
    let left = sum_by-cons (λ (q : Packet). length q.bytes) (packet_in big content p) (map (packet_in big content) ps) in
    let right = sum_by-cons (length_at big content) p ps in
    omega arith

-- a short packet that lies in the buffer stands there
pub stands_at : (big : Bool) (bytes : List ℕ) (at : ℕ) → IsWithin big bytes at → length_at big bytes at ≤ 262144 → IsPacketAt big bytes at (packet_in big bytes at)
stands_at big bytes at within short =
    let len = length-packet_in big bytes at within in
    record {
      whole = omega arith;
      within = omega arith;
      seconds = refl;
      fraction = refl;
      captured = len;
      original = refl;
      content = ap (λ (n : ℕ). take n (drop (at + 16) bytes)) (sym len);
    }

pub stands_as : (big : Bool) (bytes : List ℕ) (at : ℕ) (p : Packet) → IsWithin big bytes at → packet_in big bytes at ≡ p → length p.bytes ≤ 262144 → IsPacketAt big bytes at p
stands_as big bytes at p within is short =
    let len = length-packet_in big bytes at within in
    let same : length (packet_in big bytes at).bytes ≡ length p.bytes = ap (λ (q : Packet). length q.bytes) is in
    subst (λ (q : Packet). IsPacketAt big bytes at q) is (stands_at big bytes at within (omega arith))

pub within_from : (big : Bool) (bytes : List ℕ) (at : ℕ) → IsPacketAt big bytes at (packet_in big bytes at) → IsWithin big bytes at
within_from big bytes at here =
    let whole = here.whole in
    let captured = here.captured in
    omega arith
