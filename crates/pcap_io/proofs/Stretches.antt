-- A packet of a buffer is written there just as it would be written anew.
use Rattle.std.proofs.Common.{◌≡◌, ℕ, ◌+◌, ◌*◌, ◌/◌, ◌%◌, ◌<◌, ◌≤◌, Bool, true, false, List, [], ◌∷◌, ◌++◌, length, take, drop, map, get_or, slice_index, Some, refl, sym, ap, ◌∙◌, arith}
use Rattle.std.proofs.Math.Seq.{take-add}
use Rattle.std.specs.List.{slice_get}
use Rattle.std.proofs.lemmas.List.{drop-drop, length-map, get_or-map}
use Rattle.std.proofs.lemmas.Option.{slice_get_within, get_or_from_slice_get}
use Rattle.pcap_io.specs.declared.capture.Packet.{Packet}
use Rattle.pcap_io.specs.Layout.{number_in, bytes_in}
use Rattle.pcap_io.specs.Places.{length_at, packet_in, IsWithin}
use Rattle.pcap_io.specs.Written.{packet_bytes}
use Rattle.pcap_io.proofs.Places.{length-packet_in}

four : (a b c d e f g h : ℕ) → a ≡ e → b ≡ f → c ≡ g → d ≡ h → a ∷ b ∷ c ∷ d ∷ [] ≡ e ∷ f ∷ g ∷ h ∷ []
four a b c d e f g h first second third fourth =
    ap (λ (x : ℕ). x ∷ b ∷ c ∷ d ∷ []) first ∙ ap (λ (x : ℕ). e ∷ x ∷ c ∷ d ∷ []) second
    ∙ ap (λ (x : ℕ). e ∷ f ∷ x ∷ d ∷ []) third ∙ ap (λ (x : ℕ). e ∷ f ∷ g ∷ x ∷ []) fourth

digits : (a b c d n : ℕ) → a < 256 → b < 256 → c < 256 → d < 256 → n ≡ a * 16777216 + b * 65536 + c * 256 + d
    → (a ≡ n / 16777216 % 256) × (b ≡ n / 65536 % 256) × (c ≡ n / 256 % 256) × (d ≡ n % 256)
digits a b c d n ha hb hc hd is = (omega arith, omega arith, omega arith, omega arith)

-- four bytes spell the number that they are
pub word_bytes : (big : Bool) (xs : List ℕ) → 4 ≤ length xs → slice_index xs 0 < 256 → slice_index xs 1 < 256 → slice_index xs 2 < 256 → slice_index xs 3 < 256
    → take 4 xs ≡ bytes_in big 4 (number_in big 4 xs)
word_bytes big [] whole ha hb hc hd = absurd (omega arith)
word_bytes big (a ∷ []) whole ha hb hc hd = absurd (omega arith)
word_bytes big (a ∷ b ∷ []) whole ha hb hc hd = absurd (omega arith)
word_bytes big (a ∷ b ∷ c ∷ []) whole ha hb hc hd = absurd (omega arith)
word_bytes true (a ∷ b ∷ c ∷ d ∷ xs) whole ha hb hc hd =
    let at = digits a b c d (number_in true 4 (a ∷ b ∷ c ∷ d ∷ xs)) ha hb hc hd (omega arith) in
    four a b c d _ _ _ _ at.0 at.1 at.2 at.3
word_bytes false (a ∷ b ∷ c ∷ d ∷ xs) whole ha hb hc hd =
    let at = digits d c b a (number_in false 4 (a ∷ b ∷ c ∷ d ∷ xs)) hd hc hb ha (omega arith) in
    four a b c d _ _ _ _ at.3 at.2 at.1 at.0

-- a stretch begins with four bytes
number_first : (all more start next : ℕ) (xs : List ℕ) → all ≡ 4 + more → start + 4 ≡ next → take all (drop start xs) ≡ take 4 (drop start xs) ++ take more (drop next xs)
number_first all more start next xs long e =
    ap (λ (n : ℕ). take n (drop start xs)) long
    ∙ take-add 4 more (drop start xs)
    ∙ ap (λ (ys : List ℕ). take 4 (drop start xs) ++ take more ys) (drop-drop 4 start xs)
    ∙ ap (λ (k : ℕ). take 4 (drop start xs) ++ take more (drop k xs)) e

abbrev IsSpelled : Bool → List ℕ → ℕ → Type 0
IsSpelled big xs at = take 4 (drop at xs) ≡ bytes_in big 4 (number_in big 4 (drop at xs))

pub packet_stretch : (big : Bool) (xs : List ℕ) (start : ℕ) → IsWithin big xs start
    → IsSpelled big xs start → IsSpelled big xs (start + 4) → IsSpelled big xs (start + 8) → IsSpelled big xs (start + 12)
    → take (16 + length_at big xs start) (drop start xs) ≡ packet_bytes big (packet_in big xs start)
packet_stretch big xs start within seconds fraction captured original =
    let n = length_at big xs start in
    let bytes = take n (drop (start + 16) xs) in
    let len : n ≡ length bytes = sym (length-packet_in big xs start within) in
    let a = take 4 (drop start xs) in
    let b = take 4 (drop (start + 4) xs) in
    let c = take 4 (drop (start + 8) xs) in
    let d = take 4 (drop (start + 12) xs) in
    let p = packet_in big xs start in
    let s = bytes_in big 4 p.seconds in
    let f = bytes_in big 4 p.fraction in
    let o = bytes_in big 4 p.original in
    let captured_bytes : c ≡ bytes_in big 4 (length bytes) = captured ∙ ap (bytes_in big 4) len in
    number_first (16 + n) (12 + n) start (start + 4) xs (omega arith) refl
    ∙ ap (λ (ys : List ℕ). a ++ ys) (number_first (12 + n) (8 + n) (start + 4) (start + 8) xs (omega arith) (omega arith))
    ∙ ap (λ (ys : List ℕ). a ++ (b ++ ys)) (number_first (8 + n) (4 + n) (start + 8) (start + 12) xs (omega arith) (omega arith))
    ∙ ap (λ (ys : List ℕ). a ++ (b ++ (c ++ ys))) (number_first (4 + n) n (start + 12) (start + 16) xs refl (omega arith))
    ∙ ap (λ (ys : List ℕ). ys ++ (b ++ (c ++ (d ++ bytes)))) seconds
    ∙ ap (λ (ys : List ℕ). s ++ (ys ++ (c ++ (d ++ bytes)))) fraction
    ∙ ap (λ (ys : List ℕ). s ++ (f ++ (ys ++ (d ++ bytes)))) captured_bytes
    ∙ ap (λ (ys : List ℕ). s ++ (f ++ (bytes_in big 4 (length bytes) ++ (ys ++ bytes)))) original

-- the packet of a place is the one that begins there
pub packet_from : (big : Bool) (xs starts : List ℕ) (i : ℕ) (p : Packet) → slice_get (map (packet_in big xs) starts) i ≡ Some p → packet_in big xs (get_or starts i 0) ≡ p
packet_from big xs starts i p at =
    let within : i < length starts = omega (arith, slice_get_within (map (packet_in big xs) starts) i p at, length-map starts (packet_in big xs)) in
    sym (get_or-map (packet_in big xs) starts i 0 p within) ∙ get_or_from_slice_get (map (packet_in big xs) starts) i p p at
