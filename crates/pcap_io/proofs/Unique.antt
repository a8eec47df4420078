-- Bytes are one capture at most, no capture where they have a fault, and have one first fault at most.
use Rattle.std.proofs.Common.{◌≡◌, ◌≢◌, ◌⊎◌, inl, inr, ℕ, ◌+◌, ◌<◌, ◌≤◌, Bool, true, List, [], ◌∷◌, length, take, drop, Some, None, refl, sym, ap, subst, ◌∙◌, arith}
use Rattle.std.proofs.lemmas.Option.{none-some}
use Rattle.pcap_io.specs.declared.capture.Packet.{Packet}
use Rattle.pcap_io.specs.declared.capture.Capture.{Capture}
use Rattle.pcap_io.specs.declared.fault.CaptureFault.{CaptureFault}
use Rattle.pcap_io.specs.declared.fault.CaptureFault.TheVariants as faults
use Rattle.pcap_io.specs.Layout.{number_in, Kind, kind_of}
use Rattle.pcap_io.specs.Captures.{IsPacketAt, StandFrom, IsHeader, IsCapture, PacketFails, FailsBehind, IsFault}

abbrev packet_of : ℕ → ℕ → ℕ → List ℕ → Packet
packet_of s f o b = record { seconds = s; fraction = f; original = o; bytes = b }

same_length : (big : Bool) (bytes : List ℕ) (at : ℕ) (p q : Packet) → IsPacketAt big bytes at p → IsPacketAt big bytes at q → length p.bytes ≡ length q.bytes
same_length big bytes at p q h k = h.captured ∙ sym k.captured

same_packet : (big : Bool) (bytes : List ℕ) (at : ℕ) (p q : Packet) → IsPacketAt big bytes at p → IsPacketAt big bytes at q → p ≡ q
same_packet big bytes at p q h k =
    let b : p.bytes ≡ q.bytes = h.content ∙ ap (λ (n : ℕ). take n (drop (at + 16) bytes)) (same_length big bytes at p q h k) ∙ sym k.content in
    let e0 : p ≡ packet_of q.seconds p.fraction p.original p.bytes = ap (λ (x : ℕ). packet_of x p.fraction p.original p.bytes) (h.seconds ∙ sym k.seconds) in
    let e1 : packet_of q.seconds p.fraction p.original p.bytes ≡ packet_of q.seconds q.fraction p.original p.bytes = ap (λ (x : ℕ). packet_of q.seconds x p.original p.bytes) (h.fraction ∙ sym k.fraction) in
    let e2 : packet_of q.seconds q.fraction p.original p.bytes ≡ packet_of q.seconds q.fraction q.original p.bytes = ap (λ (x : ℕ). packet_of q.seconds q.fraction x p.bytes) (h.original ∙ sym k.original) in
    let e3 : packet_of q.seconds q.fraction q.original p.bytes ≡ q = ap (packet_of q.seconds q.fraction q.original) b in
    e0 ∙ e1 ∙ e2 ∙ e3

same_packets : (big : Bool) (bytes : List ℕ) (at : ℕ) (ps qs : List Packet) → StandFrom big bytes at ps (length bytes) → StandFrom big bytes at qs (length bytes) → ps ≡ qs
same_packets big bytes at [] [] h k = refl
same_packets big bytes at [] (q ∷ qs) h k = let w = k.0.whole in absurd (omega arith)
same_packets big bytes at (p ∷ ps) [] h k = let w = h.0.whole in absurd (omega arith)
same_packets big bytes at (p ∷ ps) (q ∷ qs) h k =
    let e = same_packet big bytes at p q h.0 k.0 in
    let rest = same_packets big bytes (at + 16 + length p.bytes) ps qs h.1 (subst (λ (n : ℕ). StandFrom big bytes (at + 16 + n) qs (length bytes)) (sym (same_length big bytes at p q h.0 k.0)) k.1) in
    ap (λ (x : Packet). x ∷ ps) e ∙ ap (λ (xs : List Packet). q ∷ xs) rest

-- a packet that stands does not fail
stands_not_fails : (big : Bool) (bytes : List ℕ) (at : ℕ) (p : Packet) (fault : CaptureFault) → IsPacketAt big bytes at p → PacketFails big bytes at fault → ⊥
stands_not_fails big bytes at p (faults.CutRecord offset) h f =
    let w = h.whole in
    let c = h.captured in
    elim f.2 as (λ _. ⊥) [ inl short ↦ omega arith | inr cut ↦ (let cut_short = cut.1 in omega arith) ]
stands_not_fails big bytes at p (faults.TooLong offset len) h f = let w = h.within in let c = h.captured in let long = f.3 in let is = f.2 in omega arith
stands_not_fails big bytes at p (faults.CutHeader offset) h f = f
stands_not_fails big bytes at p faults.BadMagic h f = f
stands_not_fails big bytes at p faults.BadVersion h f = f
stands_not_fails big bytes at p faults.NotEthernet h f = f
stands_not_fails big bytes at p (faults.NoMemory memory) h f = f

-- at the end of the bytes no packet fails
end_not_fails : (big : Bool) (bytes : List ℕ) (at : ℕ) (fault : CaptureFault) → at ≡ length bytes → PacketFails big bytes at fault → ⊥
end_not_fails big bytes at (faults.CutRecord offset) e f = let lt = f.1 in omega arith
end_not_fails big bytes at (faults.TooLong offset len) e f = let le = f.1 in omega arith
end_not_fails big bytes at (faults.CutHeader offset) e f = f
end_not_fails big bytes at faults.BadMagic e f = f
end_not_fails big bytes at faults.BadVersion e f = f
end_not_fails big bytes at faults.NotEthernet e f = f
end_not_fails big bytes at (faults.NoMemory memory) e f = f

clash : (big : Bool) (bytes : List ℕ) (at : ℕ) (ps qs : List Packet) (end : ℕ) (fault : CaptureFault) → StandFrom big bytes at ps end → PacketFails big bytes end fault → StandFrom big bytes at qs (length bytes) → ⊥
clash big bytes at [] [] end fault h f k = end_not_fails big bytes end fault (sym h ∙ k) f
clash big bytes at [] (q ∷ qs) end fault h f k = stands_not_fails big bytes end q fault (subst (λ (x : ℕ). IsPacketAt big bytes x q) h k.0) f
clash big bytes at (p ∷ ps) [] end fault h f k = let w = h.0.whole in omega arith
clash big bytes at (p ∷ ps) (q ∷ qs) end fault h f k =
    clash big bytes (at + 16 + length p.bytes) ps qs end fault h.1 f (subst (λ (n : ℕ). StandFrom big bytes (at + 16 + n) qs (length bytes)) (sym (same_length big bytes at p q h.0 k.0)) k.1)

some_is : (k l : Kind) → Some k ≡ Some l → k ≡ l
some_is k l e = cc

same_kind : (bytes : List ℕ) (big nanos : Bool) (kind : Kind) → IsHeader bytes big nanos → kind_of (number_in true 4 bytes) ≡ Some kind → kind.big ≡ big
same_kind bytes big nanos kind h e = ap (λ (k : Kind). k.big) (some_is kind (record { big = big; nanos = nanos }) (sym e ∙ h.magic))

pub one_capture : (bytes : List ℕ) (c d : Capture) → IsCapture bytes c → IsCapture bytes d → c ≡ d
one_capture bytes c d h k =
    let kinds = some_is (record { big = c.big; nanos = c.nanos }) (record { big = d.big; nanos = d.nanos }) (sym h.header.magic ∙ k.header.magic) in
    let big : c.big ≡ d.big = ap (λ (x : Kind). x.big) kinds in
    let nanos : c.nanos ≡ d.nanos = ap (λ (x : Kind). x.nanos) kinds in
    let packets : c.packets ≡ d.packets = same_packets c.big bytes 24 c.packets d.packets h.packets (subst (λ (b : Bool). StandFrom b bytes 24 d.packets (length bytes)) (sym big) k.packets) in
    let mk : Bool → Bool → List Packet → Capture = λ b n ps. record { big = b; nanos = n; packets = ps } in
    ap (λ (b : Bool). mk b c.nanos c.packets) big ∙ ap (λ (n : Bool). mk d.big n c.packets) nanos ∙ ap (λ (ps : List Packet). mk d.big d.nanos ps) packets

behind_clash : (bytes : List ℕ) (c : Capture) (kind : Kind) (fault : CaptureFault) → IsCapture bytes c → IsHeader bytes kind.big kind.nanos → FailsBehind kind.big bytes fault → ⊥
behind_clash bytes c kind fault h header behind =
    let big : kind.big ≡ c.big = same_kind bytes c.big c.nanos kind h.header header.magic in
    clash kind.big bytes 24 behind.packets c.packets behind.at fault behind.stand behind.fails (subst (λ (b : Bool). StandFrom b bytes 24 c.packets (length bytes)) (sym big) h.packets)

pub no_fault : (bytes : List ℕ) (c : Capture) (fault : CaptureFault) → IsCapture bytes c → IsFault bytes fault → ⊥
no_fault bytes c (faults.CutHeader offset) h f = let w = h.header.whole in let s = f.0 in omega arith
no_fault bytes c faults.BadMagic h f = let m = h.header.magic in let n = f.1 in cc
no_fault bytes c faults.BadVersion h f =
    let big : f.1.big ≡ c.big = same_kind bytes c.big c.nanos f.1 h.header f.2 in
    elim f.3 as (λ _. ⊥) [
      | inl major ↦ major (ap (λ (b : Bool). number_in b 2 (drop 4 bytes)) big ∙ h.header.major)
      | inr minor ↦ minor (ap (λ (b : Bool). number_in b 2 (drop 6 bytes)) big ∙ h.header.minor)
    ]
no_fault bytes c faults.NotEthernet h f =
    let big : f.1.big ≡ c.big = same_kind bytes c.big c.nanos f.1 h.header f.2 in
    f.5 (ap (λ (b : Bool). number_in b 4 (drop 20 bytes)) big ∙ h.header.link)
no_fault bytes c (faults.CutRecord offset) h f = behind_clash bytes c f.0 (faults.CutRecord offset) h f.1 f.2
no_fault bytes c (faults.TooLong offset len) h f = behind_clash bytes c f.0 (faults.TooLong offset len) h f.1 f.2
no_fault bytes c (faults.NoMemory memory) h f = f

abbrev length_said : Bool → List ℕ → ℕ → ℕ
length_said big bytes at = number_in big 4 (drop (at + 8) bytes)

abbrev IsCut : Bool → List ℕ → ℕ → Type 0
IsCut big bytes at = (length bytes < at + 16) ⊎ ((length_said big bytes at ≤ 262144) × (length bytes < at + 16 + length_said big bytes at))

abbrev IsLong : Bool → List ℕ → ℕ → Type 0
IsLong big bytes at = (at + 16 ≤ length bytes) × (262144 < length_said big bytes at)

cut_or_long : (big : Bool) (bytes : List ℕ) (at : ℕ) (f : CaptureFault) → PacketFails big bytes at f
    → ((f ≡ faults.CutRecord at) × IsCut big bytes at) ⊎ ((f ≡ faults.TooLong at (length_said big bytes at)) × IsLong big bytes at)
cut_or_long big bytes at (faults.CutRecord offset) h = inl (ap (λ (x : ℕ). faults.CutRecord x) h.0, h.2)
cut_or_long big bytes at (faults.TooLong offset len) h =
    let offset_is = h.0 in
    let len_is = h.2 in
    let long = h.3 in
    inr (ap (λ (x : ℕ). faults.TooLong x len) offset_is ∙ ap (λ (x : ℕ). faults.TooLong at x) len_is, (h.1, omega arith))
cut_or_long big bytes at (faults.CutHeader offset) h = absurd h
cut_or_long big bytes at faults.BadMagic h = absurd h
cut_or_long big bytes at faults.BadVersion h = absurd h
cut_or_long big bytes at faults.NotEthernet h = absurd h
cut_or_long big bytes at (faults.NoMemory memory) h = absurd h

cut_not_long : (big : Bool) (bytes : List ℕ) (at : ℕ) → IsCut big bytes at → IsLong big bytes at → ⊥
cut_not_long big bytes at (inl short) long = let whole = long.0 in omega arith
cut_not_long big bytes at (inr cut) long = let most = cut.0 in let above = long.1 in omega arith

same_failure : (big : Bool) (bytes : List ℕ) (at : ℕ) (f g : CaptureFault) → PacketFails big bytes at f → PacketFails big bytes at g → f ≡ g
same_failure big bytes at f g h k =
    elim (cut_or_long big bytes at f h) as (λ _. f ≡ g) [
      | inl cut ↦ elim (cut_or_long big bytes at g k) as (λ _. f ≡ g) [
        | inl other ↦ cut.0 ∙ sym other.0
        | inr other ↦ absurd (cut_not_long big bytes at cut.1 other.1)
      ]
      | inr long ↦ elim (cut_or_long big bytes at g k) as (λ _. f ≡ g) [
        | inl other ↦ absurd (cut_not_long big bytes at other.1 long.1)
        | inr other ↦ long.0 ∙ sym other.0
      ]
    ]

-- two failures behind packets that stand from the same offset on
same_first : (big : Bool) (bytes : List ℕ) (at : ℕ) (ps qs : List Packet) (end last : ℕ) (f g : CaptureFault)
    → StandFrom big bytes at ps end → PacketFails big bytes end f → StandFrom big bytes at qs last → PacketFails big bytes last g → f ≡ g
same_first big bytes at [] [] end last f g h hf k kg =
    same_failure big bytes at f g (subst (λ (x : ℕ). PacketFails big bytes x f) (sym h) hf) (subst (λ (x : ℕ). PacketFails big bytes x g) (sym k) kg)
same_first big bytes at [] (q ∷ qs) end last f g h hf k kg =
    absurd (stands_not_fails big bytes end q f (subst (λ (x : ℕ). IsPacketAt big bytes x q) h k.0) hf)
same_first big bytes at (p ∷ ps) [] end last f g h hf k kg =
    absurd (stands_not_fails big bytes last p g (subst (λ (x : ℕ). IsPacketAt big bytes x p) k h.0) kg)
same_first big bytes at (p ∷ ps) (q ∷ qs) end last f g h hf k kg =
    same_first big bytes (at + 16 + length p.bytes) ps qs end last f g h.1 hf (subst (λ (n : ℕ). StandFrom big bytes (at + 16 + n) qs last) (sym (same_length big bytes at p q h.0 k.0)) k.1) kg

same_behind : (bytes : List ℕ) (k l : Kind) (f g : CaptureFault) → IsHeader bytes k.big k.nanos → FailsBehind k.big bytes f → IsHeader bytes l.big l.nanos → FailsBehind l.big bytes g → f ≡ g
same_behind bytes k l f g header behind other failing =
    let big : l.big ≡ k.big = same_kind bytes k.big k.nanos l header other.magic in
    let moved = subst (λ (b : Bool). FailsBehind b bytes g) big failing in
    same_first k.big bytes 24 behind.packets moved.packets behind.at moved.at f g behind.stand behind.fails moved.stand moved.fails

-- a version, and a link type, that the one reading of the magic word refuses and another takes
version_clash : (bytes : List ℕ) (k l : Kind) → kind_of (number_in true 4 bytes) ≡ Some k → kind_of (number_in true 4 bytes) ≡ Some l
    → (number_in k.big 2 (drop 4 bytes) ≢ 2) ⊎ (number_in k.big 2 (drop 6 bytes) ≢ 4) → number_in l.big 2 (drop 4 bytes) ≡ 2 → number_in l.big 2 (drop 6 bytes) ≡ 4 → ⊥
version_clash bytes k l is other (inl bad) major minor = bad (ap (λ (x : Kind). number_in x.big 2 (drop 4 bytes)) (some_is k l (sym is ∙ other)) ∙ major)
version_clash bytes k l is other (inr bad) major minor = bad (ap (λ (x : Kind). number_in x.big 2 (drop 6 bytes)) (some_is k l (sym is ∙ other)) ∙ minor)

link_clash : (bytes : List ℕ) (k l : Kind) → kind_of (number_in true 4 bytes) ≡ Some k → kind_of (number_in true 4 bytes) ≡ Some l
    → number_in k.big 4 (drop 20 bytes) ≢ 1 → number_in l.big 4 (drop 20 bytes) ≡ 1 → ⊥
link_clash bytes k l is other bad link = bad (ap (λ (x : Kind). number_in x.big 4 (drop 20 bytes)) (some_is k l (sym is ∙ other)) ∙ link)

-- each fault, met by any other
cut_header_alone : (bytes : List ℕ) (offset : ℕ) (g : CaptureFault) → length bytes < 24 → offset ≡ length bytes → IsFault bytes g → faults.CutHeader offset ≡ g
cut_header_alone bytes offset (faults.CutHeader other) short is k = ap (λ (x : ℕ). faults.CutHeader x) (is ∙ sym k.1)
cut_header_alone bytes offset faults.BadMagic short is k = let whole = k.0 in absurd (omega arith)
cut_header_alone bytes offset faults.BadVersion short is k = let whole = k.0 in absurd (omega arith)
cut_header_alone bytes offset faults.NotEthernet short is k = let whole = k.0 in absurd (omega arith)
cut_header_alone bytes offset (faults.CutRecord other) short is k = let whole = k.1.whole in absurd (omega arith)
cut_header_alone bytes offset (faults.TooLong other len) short is k = let whole = k.1.whole in absurd (omega arith)
cut_header_alone bytes offset (faults.NoMemory memory) short is k = absurd k

magic_alone : (bytes : List ℕ) (g : CaptureFault) → 24 ≤ length bytes → kind_of (number_in true 4 bytes) ≡ None → IsFault bytes g → faults.BadMagic ≡ g
magic_alone bytes (faults.CutHeader other) whole bad k = let short = k.0 in absurd (omega arith)
magic_alone bytes faults.BadMagic whole bad k = refl
magic_alone bytes faults.BadVersion whole bad k = absurd (none-some k.1 (sym bad ∙ k.2))
magic_alone bytes faults.NotEthernet whole bad k = absurd (none-some k.1 (sym bad ∙ k.2))
magic_alone bytes (faults.CutRecord other) whole bad k = absurd (none-some k.0 (sym bad ∙ k.1.magic))
magic_alone bytes (faults.TooLong other len) whole bad k = absurd (none-some k.0 (sym bad ∙ k.1.magic))
magic_alone bytes (faults.NoMemory memory) whole bad k = absurd k

version_alone : (bytes : List ℕ) (kind : Kind) (g : CaptureFault) → 24 ≤ length bytes → kind_of (number_in true 4 bytes) ≡ Some kind
    → (number_in kind.big 2 (drop 4 bytes) ≢ 2) ⊎ (number_in kind.big 2 (drop 6 bytes) ≢ 4) → IsFault bytes g → faults.BadVersion ≡ g
version_alone bytes kind (faults.CutHeader other) whole is bad k = let short = k.0 in absurd (omega arith)
version_alone bytes kind faults.BadMagic whole is bad k = absurd (none-some kind (sym k.1 ∙ is))
version_alone bytes kind faults.BadVersion whole is bad k = refl
version_alone bytes kind faults.NotEthernet whole is bad k = absurd (version_clash bytes kind k.1 is k.2 bad k.3 k.4)
version_alone bytes kind (faults.CutRecord other) whole is bad k = absurd (version_clash bytes kind k.0 is k.1.magic bad k.1.major k.1.minor)
version_alone bytes kind (faults.TooLong other len) whole is bad k = absurd (version_clash bytes kind k.0 is k.1.magic bad k.1.major k.1.minor)
version_alone bytes kind (faults.NoMemory memory) whole is bad k = absurd k

link_alone : (bytes : List ℕ) (kind : Kind) (g : CaptureFault) → 24 ≤ length bytes → kind_of (number_in true 4 bytes) ≡ Some kind
    → number_in kind.big 2 (drop 4 bytes) ≡ 2 → number_in kind.big 2 (drop 6 bytes) ≡ 4 → number_in kind.big 4 (drop 20 bytes) ≢ 1 → IsFault bytes g → faults.NotEthernet ≡ g
link_alone bytes kind (faults.CutHeader other) whole is major minor bad k = let short = k.0 in absurd (omega arith)
link_alone bytes kind faults.BadMagic whole is major minor bad k = absurd (none-some kind (sym k.1 ∙ is))
link_alone bytes kind faults.BadVersion whole is major minor bad k = absurd (version_clash bytes k.1 kind k.2 is k.3 major minor)
link_alone bytes kind faults.NotEthernet whole is major minor bad k = refl
link_alone bytes kind (faults.CutRecord other) whole is major minor bad k = absurd (link_clash bytes kind k.0 is k.1.magic bad k.1.link)
link_alone bytes kind (faults.TooLong other len) whole is major minor bad k = absurd (link_clash bytes kind k.0 is k.1.magic bad k.1.link)
link_alone bytes kind (faults.NoMemory memory) whole is major minor bad k = absurd k

behind_alone : (bytes : List ℕ) (kind : Kind) (f g : CaptureFault) → IsHeader bytes kind.big kind.nanos → FailsBehind kind.big bytes f → IsFault bytes g → f ≡ g
behind_alone bytes kind f (faults.CutHeader other) header behind k = let whole = header.whole in let short = k.0 in absurd (omega arith)
behind_alone bytes kind f faults.BadMagic header behind k = absurd (none-some kind (sym k.1 ∙ header.magic))
behind_alone bytes kind f faults.BadVersion header behind k = absurd (version_clash bytes k.1 kind k.2 header.magic k.3 header.major header.minor)
behind_alone bytes kind f faults.NotEthernet header behind k = absurd (link_clash bytes k.1 kind k.2 header.magic k.5 header.link)
behind_alone bytes kind f (faults.CutRecord other) header behind k = same_behind bytes kind k.0 f (faults.CutRecord other) header behind k.1 k.2
behind_alone bytes kind f (faults.TooLong other len) header behind k = same_behind bytes kind k.0 f (faults.TooLong other len) header behind k.1 k.2
behind_alone bytes kind f (faults.NoMemory memory) header behind k = absurd k

pub one_fault : (bytes : List ℕ) (f g : CaptureFault) → IsFault bytes f → IsFault bytes g → f ≡ g
one_fault bytes (faults.CutHeader offset) g h k = cut_header_alone bytes offset g h.0 h.1 k
one_fault bytes faults.BadMagic g h k = magic_alone bytes g h.0 h.1 k
one_fault bytes faults.BadVersion g h k = version_alone bytes h.1 g h.0 h.2 h.3 k
one_fault bytes faults.NotEthernet g h k = link_alone bytes h.1 g h.0 h.2 h.3 h.4 h.5 k
one_fault bytes (faults.CutRecord offset) g h k = behind_alone bytes h.0 (faults.CutRecord offset) g h.1 h.2 k
one_fault bytes (faults.TooLong offset len) g h k = behind_alone bytes h.0 (faults.TooLong offset len) g h.1 h.2 k
one_fault bytes (faults.NoMemory memory) g h k = absurd h
