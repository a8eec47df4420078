-- The lines of packets, one packet after the other, and their kinds.
use Rattle.std.proofs.Common.{◌≡◌, ◌∙◌, ℕ, zero, suc, ◌+◌, ◌<◌, ◌≤◌, ◌^◌, Bool, List, [], ◌∷◌, ◌++◌, length, refl, sym, ap, subst, append_assoc, arith}
use Rattle.std.specs.Prelude.{drop, take, map, Option, Some}
use Rattle.std.specs.List.{slice_get}
use Rattle.std.proofs.lemmas.List.{drop_all, drop_more, take_all, take_more, length-map, length-take, map-append}
use Rattle.std.proofs.lemmas.Option.{slice_get_within, get_or_from_slice_get}
use Rattle.pcap_io.specs.declared.capture.Packet.{Packet}
use Rattle.pcap_io.specs.Captures.{AreShort}
use Rattle.walk_texts.specs.Texts.{joined}
use Rattle.walk_fate_laws.specs.declared.kinds.Kind.{Kind}
use Rattle.change_fates.specs.declared.counts.KindCounts.{KindCounts}
use Rattle.fate_search.specs.Found.{all_found}
use Rattle.change_fates.specs.Texts.{packet_line}
use Rattle.change_fates.specs.Told.{ChangeAt, told_in, whens_in, kind_in, ways_in, more_in, kinds_in, counts_of, fates_lines, packet_lines, packets_lines}
use Rattle.change_fates.specs.Paging.{IsOnPage}
use Rattle.change_fates.proofs.Paging.{on_more}
use Rattle.change_fates.proofs.Lists.{joined_append}
use Rattle.change_fates.proofs.Counting.{total, total_is}

-- those from a place on
abbrev pub lines_from : ChangeAt → List Packet → ℕ → List ℕ
lines_from change packets place = joined (packets_lines change (place + 1) (drop place packets))

left_at : (packets : List Packet) (place : ℕ) (packet : Packet) → slice_get packets place ≡ Some packet → drop place packets ≡ packet ∷ drop (place + 1) packets
left_at packets place packet is =
    drop_more packets place packet (slice_get_within packets place packet is)
    ∙ ap (λ (p : Packet). p ∷ drop (place + 1) packets) (get_or_from_slice_get packets place packet packet is)

front_at : (packets : List Packet) (place : ℕ) (packet : Packet) → slice_get packets place ≡ Some packet → take (place + 1) packets ≡ take place packets ++ (packet ∷ [])
front_at packets place packet is =
    take_more packets place packet (slice_get_within packets place packet is)
    ∙ ap (λ (p : Packet). take place packets ++ (p ∷ [])) (get_or_from_slice_get packets place packet packet is)

module _ (change : ChangeAt) (packets : List Packet) where
  pub one_packet : (place : ℕ) (packet : Packet) → slice_get packets place ≡ Some packet
      → lines_from change packets place ≡ joined (packet_lines change (place + 1) packet.bytes) ++ lines_from change packets (place + 1)
  one_packet place packet is =
      ap (λ (ps : List Packet). joined (packets_lines change (place + 1) ps)) (left_at packets place packet is)
      ∙ joined_append (packet_lines change (place + 1) packet.bytes) (packets_lines change (place + 1 + 1) (drop (place + 1) packets))

  pub no_packet : (place : ℕ) → length packets ≤ place → lines_from change packets place ≡ []
  no_packet place past = ap (λ (ps : List Packet). joined (packets_lines change (place + 1) ps)) (drop_all place packets past)

  -- their kinds
  pub one_kind : (place : ℕ) (packet : Packet) → slice_get packets place ≡ Some packet
      → kinds_in change (take (place + 1) packets) ≡ kinds_in change (take place packets) ++ (kind_in change packet.bytes ∷ [])
  one_kind place packet is =
      ap (kinds_in change) (front_at packets place packet is)
      ∙ map-append (λ (p : Packet). kind_in change p.bytes) (take place packets) (packet ∷ [])

  pub all_kinds : (place : ℕ) → length packets ≤ place → kinds_in change (take place packets) ≡ kinds_in change packets
  all_kinds place past = ap (kinds_in change) (take_all place packets past)

  pub few : (counts : KindCounts) (place : ℕ) → counts ≡ counts_of (kinds_in change (take place packets)) → place < length packets → length packets ≤ 1048576 → total counts + 1 < 2 ^ 32
  few counts place is within most =
      let sum : total counts ≡ length (kinds_in change (take place packets)) = ap total is ∙ total_is (kinds_in change (take place packets)) in
      let long = length-map (take place packets) (λ (p : Packet). kind_in change p.bytes) in
      let short = length-take place packets in
      omega (arith, sum, long, short, within, most)

-- ---- a packet's own line is put on the page
line_is : (number : ℕ) (kind kind' : Kind) (ways ways' : ℕ) (more more' : Bool) → kind ≡ kind' → ways ≡ ways' → more ≡ more' → packet_line number kind ways more ≡ packet_line number kind' ways' more'
line_is number kind kind' ways ways' more more' a b c =
    ap (λ (k : Kind). packet_line number k ways more) a ∙ ap (λ (n : ℕ). packet_line number kind' n more) b ∙ ap (λ (m : Bool). packet_line number kind' ways' m) c

pub head_page : (change : ChangeAt) (number : ℕ) (bytes : List ℕ) (kind : Kind) (ways : ℕ) (more : Bool) (first now : Option (List ℕ)) (whole page new rest : List ℕ) → kind ≡ kind_in change bytes
    → ways ≡ ways_in change bytes → more ≡ more_in change bytes → new ≡ page ++ packet_line number kind ways more
    → IsOnPage first now whole page (joined (packet_lines change number bytes) ++ rest)
    → IsOnPage first now whole new (joined (fates_lines change number bytes (whens_in change bytes) (all_found (told_in change bytes))) ++ rest)
head_page change number bytes kind ways more first now whole page new rest a b c put at =
    let line = packet_line number (kind_in change bytes) (ways_in change bytes) (more_in change bytes) in
    let fates = joined (fates_lines change number bytes (whens_in change bytes) (all_found (told_in change bytes))) in
    on_more first now whole page new line (fates ++ rest) (put ∙ ap (λ (xs : List ℕ). page ++ xs) (line_is number kind (kind_in change bytes) ways (ways_in change bytes) more (more_in change bytes) a b c))
    (subst (IsOnPage first now whole page) (append_assoc line fates rest) at)

-- the packet at a place is written
pub next_packet : (change : ChangeAt) (packets : List Packet) (place : ℕ) (packet : Packet) (first now : Option (List ℕ)) (whole page rest : List ℕ) → slice_get packets place ≡ Some packet
    → IsOnPage first now whole page (lines_from change packets place ++ rest)
    → IsOnPage first now whole page (joined (packet_lines change (place + 1) packet.bytes) ++ (lines_from change packets (place + 1) ++ rest))
next_packet change packets place packet first now whole page rest is at =
    let lines = joined (packet_lines change (place + 1) packet.bytes) in
    let left = lines_from change packets (place + 1) in
    subst (IsOnPage first now whole page) (ap (λ (xs : List ℕ). xs ++ rest) (one_packet change packets place packet is) ∙ append_assoc lines left rest) at

-- and counted
pub next_counts : (change : ChangeAt) (packets : List Packet) (place : ℕ) (packet : Packet) (counts now : KindCounts) (kind : Kind) → slice_get packets place ≡ Some packet → kind ≡ kind_in change packet.bytes
    → counts ≡ counts_of (kinds_in change (take place packets)) → ((kinds : List Kind) → counts ≡ counts_of kinds → now ≡ counts_of (kinds ++ (kind ∷ [])))
    → now ≡ counts_of (kinds_in change (take (place + 1) packets))
next_counts change packets place packet counts now kind is same counted adds =
    adds (kinds_in change (take place packets)) counted
    ∙ ap (λ (k : Kind). counts_of (kinds_in change (take place packets) ++ (k ∷ []))) same
    ∙ ap counts_of (sym (one_kind change packets place packet is))

-- each is short
pub short_at : (packets : List Packet) (place : ℕ) (packet : Packet) → AreShort packets → slice_get packets place ≡ Some packet → length packet.bytes ≤ 262144
short_at packets place packet short at =
    subst (λ (p : Packet). length p.bytes ≤ 262144) (get_or_from_slice_get packets place packet packet at) (short place packet (slice_get_within packets place packet at))
