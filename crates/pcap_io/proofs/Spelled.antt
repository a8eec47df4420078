-- What is written for a header and for a packet stands there.
use Rattle.std.proofs.Common.{◌≡◌, ℕ, ◌+◌, ◌^◌, ◌<◌, Bool, true, false, List, ◌++◌, length, take, drop, get_or, [], ◌∷◌, refl, sym, ap, ◌∙◌, append_assoc, arith}
use Rattle.std.specs.List.{flat_map}
use Rattle.std.proofs.lemmas.List.{length-append, drop-drop, drop_at, take_all, take_more, flat_map_more}
use Rattle.byteorder.specs.Numbers.{big_number-reads_back, little_number-reads_back}
use Rattle.pcap_io.specs.declared.capture.Packet.{Packet}
use Rattle.pcap_io.specs.Layout.{number_in, bytes_in, kind_of}
use Rattle.pcap_io.specs.Captures.{IsHeader}
use Rattle.pcap_io.specs.Places.{length_at, packet_in, IsWithin}
use Rattle.pcap_io.specs.Written.{header_bytes, record_bytes, packet_bytes}
use Rattle.pcap_io.proofs.Places.{same_made}

pub header_stands : (big nanos : Bool) → IsHeader (header_bytes big nanos) big nanos
unfolding kind_of
header_stands true true = record { whole = omega arith; magic = refl; major = refl; minor = refl; link = refl }
header_stands true false = record { whole = omega arith; magic = refl; major = refl; minor = refl; link = refl }
header_stands false true = record { whole = omega arith; magic = refl; major = refl; minor = refl; link = refl }
header_stands false false = record { whole = omega arith; magic = refl; major = refl; minor = refl; link = refl }

pub length-header_bytes : (big nanos : Bool) → length (header_bytes big nanos) ≡ 24
length-header_bytes true true = refl
length-header_bytes true false = refl
length-header_bytes false true = refl
length-header_bytes false false = refl

pub length-packet_bytes : (big : Bool) (p : Packet) → length (packet_bytes big p) ≡ 16 + length p.bytes
length-packet_bytes true p = omega arith
length-packet_bytes false p = omega arith

-- a number is read back from its bytes
number_in-bytes_in : (big : Bool) (x : ℕ) (rest : List ℕ) → x < 2 ^ 32 → number_in big 4 (bytes_in big 4 x ++ rest) ≡ x
number_in-bytes_in true x rest fits = big_number-reads_back 4 x rest fits
number_in-bytes_in false x rest fits = little_number-reads_back 4 x rest fits

-- what stands behind one, two, three and four numbers
behind_one : (big : Bool) (a : ℕ) (rest : List ℕ) → drop 4 (bytes_in big 4 a ++ rest) ≡ rest
behind_one true a rest = refl
behind_one false a rest = refl

behind_two : (big : Bool) (a b : ℕ) (rest : List ℕ) → drop 8 (bytes_in big 4 a ++ (bytes_in big 4 b ++ rest)) ≡ rest
behind_two true a b rest = refl
behind_two false a b rest = refl

behind_three : (big : Bool) (a b c : ℕ) (rest : List ℕ) → drop 12 (bytes_in big 4 a ++ (bytes_in big 4 b ++ (bytes_in big 4 c ++ rest))) ≡ rest
behind_three true a b c rest = refl
behind_three false a b c rest = refl

behind_four : (big : Bool) (a b c d : ℕ) (rest : List ℕ) → drop 16 (bytes_in big 4 a ++ (bytes_in big 4 b ++ (bytes_in big 4 c ++ (bytes_in big 4 d ++ rest)))) ≡ rest
behind_four true a b c d rest = refl
behind_four false a b c d rest = refl

drop-append-add : (n : ℕ) (old more : List ℕ) → drop (length old + n) (old ++ more) ≡ drop n more
drop-append-add n old more = sym (drop-drop n (length old) (old ++ more)) ∙ ap (drop n) (drop_at old more (length old) refl)

-- what is read of a packet that is written behind other bytes
pub packet_in-end : (big : Bool) (old : List ℕ) (p : Packet) → length p.bytes < 2 ^ 32 → p.seconds < 2 ^ 32 → p.fraction < 2 ^ 32 → p.original < 2 ^ 32
    → IsWithin big (old ++ packet_bytes big p) (length old) × (packet_in big (old ++ packet_bytes big p) (length old) ≡ p)
packet_in-end big old p short seconds fraction original =
    let len = length-packet_bytes big p in
    let all = length-append old (packet_bytes big p) in
    let o = bytes_in big 4 p.original ++ p.bytes in
    let c = bytes_in big 4 (length p.bytes) ++ o in
    let f = bytes_in big 4 p.fraction ++ c in
    let written = packet_bytes big p in
    let from : (n : ℕ) → drop (length old + n) (old ++ written) ≡ drop n written = λ n. drop-append-add n old written in
    let number : List ℕ → ℕ = number_in big 4 in
    let captured : length_at big (old ++ written) (length old) ≡ length p.bytes = ap number (from 8 ∙ behind_two big p.seconds p.fraction c) ∙ number_in-bytes_in big (length p.bytes) o (omega arith) in
    let bytes = ap (λ (n : ℕ). take n (drop (length old + 16) (old ++ written))) captured
    ∙ ap (take (length p.bytes)) (from 16 ∙ behind_four big p.seconds p.fraction (length p.bytes) p.original p.bytes) ∙ take_all (length p.bytes) p.bytes (omega arith) in (
      omega arith,
      same_made _ _ _ _ _ _ _ _
          (ap number (drop_at old written (length old) refl) ∙ number_in-bytes_in big p.seconds f seconds)
          (ap number (from 4 ∙ behind_one big p.seconds f) ∙ number_in-bytes_in big p.fraction c fraction)
          (ap number (from 12 ∙ behind_three big p.seconds p.fraction (length p.bytes) o) ∙ number_in-bytes_in big p.original p.bytes original)
          bytes,
    )

-- four numbers and then the bytes are a packet's bytes
pub packet_bytes-from_record : (big : Bool) (old : List ℕ) (p : Packet) → (old ++ record_bytes big p) ++ p.bytes ≡ old ++ packet_bytes big p
packet_bytes-from_record big old p = simp append_assoc

-- the bytes of one more packet
pub flat_map-one_more : (f : Packet → List ℕ) (header old new : List ℕ) (packets : List Packet) (i : ℕ) (packet : Packet)
    → i < length packets → packet ≡ get_or packets i packet → new ≡ old ++ f packet → old ≡ header ++ flat_map f (take i packets) → new ≡ header ++ flat_map f (take (i + 1) packets)
flat_map-one_more f header old new packets i packet lt item put so_far =
    let more : take (i + 1) packets ≡ take i packets ++ packet ∷ [] = take_more packets i packet lt ∙ ap (λ (p : Packet). take i packets ++ p ∷ []) (sym item) in
    put ∙ ap (λ (xs : List ℕ). xs ++ f packet) so_far ∙ flat_map_more f header (take i packets) packet ∙ ap (λ (ps : List Packet). header ++ flat_map f ps) (sym more)
