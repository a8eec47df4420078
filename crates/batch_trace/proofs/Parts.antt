-- The parts of a trace, one packet more at a time, and what they come to.
use Rattle.std.proofs.Common.{◌≡◌, ◌∙◌, ℕ, zero, suc, ◌+◌, ◌<◌, List, [], ◌∷◌, ◌++◌, length, take, drop, Option, Some, None, refl, sym, ap, ap₂, append_assoc, append-nil, arith}
use Rattle.std.specs.Prelude.{map, slice_get, filter, Bool, true, false, if◌then◌else◌}
use Rattle.std.proofs.Common.{cond}
use Rattle.std.specs.List.{flat_map}
use Rattle.std.proofs.lemmas.List.{length-map, length-append}
use Rattle.std.proofs.lemmas.List.Concat.{flat_map-append}
use Rattle.std.proofs.lemmas.List.Sums.{sum_by-append}
use Rattle.tc_base.specs.declared.hook.Hook.{Hook}
use Rattle.pcap_io.specs.declared.capture.Packet.{Packet}
use Rattle.pcap_io.specs.declared.capture.Capture.{Capture}
use Rattle.walk_rules.specs.Plain.{plain_walk}
use Rattle.batch_run.specs.Commands.{Command}
use Rattle.batch_run.specs.Runs.{Ran}
use Rattle.tc_report.specs.OfShownBatches.Shown.{stop_shown}
use Rattle.walk_texts.specs.Texts.{joined}
use Rattle.capture_walk.specs.declared.ends.PacketEnd.{PacketEnd}
use Rattle.capture_walk.specs.Captures.{outcomes_of, end_of}
use Rattle.batch_walk.specs.declared.walk.BatchWalk.{BatchWalk}
use Rattle.batch_walk.specs.Texts.{packet_line, packet_lines}
use Rattle.batch_walk.specs.Walked.{walk_text, closing_text, IsWalked}
use Rattle.filter_origins.specs.declared.brought.Brought.{Brought}
use Rattle.filter_origins.specs.Entries.{Entry}
use Rattle.trace_lines.specs.Lines.{decided_in}
use Rattle.walk_trace.specs.Tallies.{times_in}
use Rattle.journal_names.specs.Known.{names_of}
use Rattle.journal_names.specs.Decided.{decided_line}
use Rattle.batch_trace.specs.Accepted.{AreAccepted}
use Rattle.batch_trace.specs.Meeting.{shown_standing}
use Rattle.batch_trace.specs.Traced.{steps_in, met_text, decisions, is_standing, standing_lines, decided_lines, Part, own, told, text_of, own_of, text_in, own_in, packet_parts, parts_with, trace_parts, trace_text, told_trace, IsTraceOf}

-- ---- a packet at its place
some_is : {A : Type 0} (a b : A) → Some a ≡ Some b → a ≡ b
some_is a b same = ap (λ (o : Option _). or_else a o) same
  where
    or_else : {A : Type 0} → A → Option A → A
    or_else other None = other
    or_else other (Some x) = x

pub from_place : (packets : List Packet) (k : ℕ) (packet : Packet) → slice_get packets k ≡ Some packet → drop k packets ≡ packet ∷ drop (k + 1) packets
from_place [] k packet there = absurd (cc there)
from_place (p ∷ packets) zero packet there = ap (λ (q : Packet). q ∷ packets) (some_is p packet there)
from_place (p ∷ packets) (suc k) packet there =
    let next : suc k + 1 ≡ suc (k + 1) = omega arith in
    from_place packets k packet there ∙ ap (λ (n : ℕ). packet ∷ drop n (p ∷ packets)) (sym next)

pub to_place : (packets : List Packet) (k : ℕ) (packet : Packet) → slice_get packets k ≡ Some packet → take (k + 1) packets ≡ take k packets ++ (packet ∷ [])
to_place [] k packet there = absurd (cc there)
to_place (p ∷ packets) zero packet there = ap (λ (q : Packet). q ∷ []) (some_is p packet there)
to_place (p ∷ packets) (suc k) packet there =
    let next : suc k + 1 ≡ suc (k + 1) = omega arith in
    ap (λ (n : ℕ). take n (p ∷ packets)) next ∙ ap (λ (ps : List Packet). p ∷ ps) (to_place packets k packet there)

-- ---- parts of packets
module _ (entries : List Entry) (hook : Hook) where
  no_parts : (number : ℕ) (packets : List Packet) → packet_parts entries hook number packets [] ≡ []
  no_parts number [] = refl
  no_parts number (packet ∷ packets) = refl

  parts_append : (number : ℕ) (packets : List Packet) (ends more : List PacketEnd) → packet_parts entries hook number packets (ends ++ more)
      ≡ packet_parts entries hook number packets ends ++ packet_parts entries hook (number + length ends) (drop (length ends) packets) more
  parts_append number packets [] more =
      let at : number ≡ number + 0 = omega arith in
      ap (λ (n : ℕ). packet_parts entries hook n packets more) at
      ∙ ap (λ (parts : List Part). parts ++ packet_parts entries hook (number + 0) packets more) (sym (no_parts number packets))
  parts_append number [] (end ∷ ends) more = refl
  parts_append number (packet ∷ packets) (end ∷ ends) more =
      let at : number + 1 + length ends ≡ number + suc (length ends) = omega arith in
      ap (λ (parts : List Part). told (met_text entries hook number packet.bytes) ∷ own (packet_line number end) ∷ parts)
      (parts_append (number + 1) packets ends more
      ∙ ap (λ (n : ℕ). packet_parts entries hook (number + 1) packets ends ++ packet_parts entries hook n (drop (length ends) packets) more) at)

  -- what is told of a packet, and its line
  abbrev pub page_of : ℕ → Packet → PacketEnd → List ℕ
  page_of number packet end = met_text entries hook number packet.bytes ++ packet_line number end

  -- the text of all packets: that of some, of one more, and of those behind it
  pub packets_rest : (packets : List Packet) (ends : List PacketEnd) (end : PacketEnd) (rest : List PacketEnd) (packet : Packet) → slice_get packets (length ends) ≡ Some packet
      → text_in (packet_parts entries hook 1 packets (ends ++ end ∷ rest)) ≡ text_in (packet_parts entries hook 1 packets ends)
      ++ (page_of (1 + length ends) packet end ++ text_in (packet_parts entries hook (1 + length ends + 1) (drop (length ends + 1) packets) rest))
  packets_rest packets ends end rest packet there =
      let number = 1 + length ends in
      let behind = text_in (packet_parts entries hook (number + 1) (drop (length ends + 1) packets) rest) in
      ap text_in (parts_append 1 packets ends (end ∷ rest) ∙ ap (λ (ps : List Packet). packet_parts entries hook 1 packets ends ++ packet_parts entries hook number ps (end ∷ rest)) (from_place packets (length ends) packet there))
      ∙ flat_map-append text_of (packet_parts entries hook 1 packets ends) (packet_parts entries hook number (packet ∷ drop (length ends + 1) packets) (end ∷ rest))
      ∙ ap (λ (text : List ℕ). text_in (packet_parts entries hook 1 packets ends) ++ text) (sym (append_assoc (met_text entries hook number packet.bytes) (packet_line number end) behind))

  pub packets_more : (packets : List Packet) (ends : List PacketEnd) (end : PacketEnd) (packet : Packet) → slice_get packets (length ends) ≡ Some packet
      → text_in (packet_parts entries hook 1 packets (ends ++ end ∷ [])) ≡ text_in (packet_parts entries hook 1 packets ends) ++ page_of (1 + length ends) packet end
  packets_more packets ends end packet there =
      packets_rest packets ends end [] packet there
      ∙ ap (λ (text : List ℕ). text_in (packet_parts entries hook 1 packets ends) ++ text)
      (ap (λ (parts : List Part). page_of (1 + length ends) packet end ++ text_in parts) (no_parts (1 + length ends + 1) (drop (length ends + 1) packets))
      ∙ append-nil (page_of (1 + length ends) packet end))

  pub no_packets : (packets : List Packet) → text_in (packet_parts entries hook 1 packets []) ≡ []
  no_packets packets = ap text_in (no_parts 1 packets)

  -- ---- what decided
  pub decided_more : (packets : List Packet) (k : ℕ) (packet : Packet) (edit : ℕ) → slice_get packets k ≡ Some packet
      → times_in (decisions entries hook (take (k + 1) packets)) edit
      ≡ times_in (decisions entries hook (take k packets)) edit + times_in (decided_in (names_of entries) (steps_in entries hook packet.bytes)) edit
  decided_more packets k packet edit there =
      let one = decided_in (names_of entries) (steps_in entries hook packet.bytes) in
      ap (λ (ps : List Packet). times_in (decisions entries hook ps) edit) (to_place packets k packet there)
      ∙ ap (λ (edits : List ℕ). times_in edits edit)
      (flat_map-append (λ (p : Packet). decided_in (names_of entries) (steps_in entries hook p.bytes)) (take k packets) (packet ∷ [])
      ∙ ap (λ (edits : List ℕ). decisions entries hook (take k packets) ++ edits) (append-nil one))
      ∙ times_append (decisions entries hook (take k packets)) one edit
    where
      times_append : (xs ys : List ℕ) (edit : ℕ) → times_in (xs ++ ys) edit ≡ times_in xs edit + times_in ys edit
      times_append xs ys edit = sum_by-append _ xs ys

  -- ---- the whole text
  pub whole_trace : (stop : List ℕ) (ends : List PacketEnd) (closing : List ℕ) (packets : List Packet) → text_in (parts_with stop ends closing entries hook packets)
      ≡ stop ++ (text_in (packet_parts entries hook 1 packets ends) ++ (joined (decided_lines entries hook packets) ++ closing))
  whole_trace stop ends closing packets =
      let decided = joined (decided_lines entries hook packets) in
      ap (λ (text : List ℕ). stop ++ text)
      (flat_map-append text_of (packet_parts entries hook 1 packets ends) (told decided ∷ own closing ∷ [])
      ∙ ap (λ (text : List ℕ). text_in (packet_parts entries hook 1 packets ends) ++ (decided ++ text)) (append-nil closing))

  -- ---- the walk's own parts
  own_lines : (number : ℕ) (packets : List Packet) (ends : List PacketEnd) → length ends ≡ length packets → own_in (packet_parts entries hook number packets ends) ≡ joined (packet_lines number ends)
  own_lines number [] [] each = refl
  own_lines number [] (end ∷ ends) each = absurd (omega (arith, each))
  own_lines number (packet ∷ packets) [] each = absurd (omega (arith, each))
  own_lines number (packet ∷ packets) (end ∷ ends) each =
      ap (λ (text : List ℕ). packet_line number end ++ text) (own_lines (number + 1) packets ends (omega (arith, each)))

  own_whole : (stop : List ℕ) (ends : List PacketEnd) (closing : List ℕ) (packets : List Packet) → length ends ≡ length packets
      → own_in (parts_with stop ends closing entries hook packets) ≡ stop ++ joined (packet_lines 1 ends) ++ closing
  own_whole stop ends closing packets each =
      ap (λ (text : List ℕ). stop ++ text)
      (flat_map-append own_of (packet_parts entries hook 1 packets ends) (told (joined (decided_lines entries hook packets)) ∷ own closing ∷ [])
      ∙ ap₂ (λ (a b : List ℕ). a ++ b) (own_lines 1 packets ends each) (append-nil closing))
      ∙ sym (append_assoc stop (joined (packet_lines 1 ends)) closing)

-- there is an end for each packet
each_ends : (ran : Ran) (hook : Hook) (packets : List Packet) → length (map end_of (outcomes_of ran.state hook packets)) ≡ length packets
each_ends ran hook packets = length-map (outcomes_of ran.state hook packets) end_of ∙ length-map packets (λ (p : Packet). plain_walk ran.state hook p.bytes)

pub nothing_else : (ran : Ran) (entries : List Entry) (hook : Hook) (packets : List Packet) → own_in (trace_parts ran entries hook packets) ≡ walk_text ran hook packets
unfolding walk_text closing_text
nothing_else ran entries hook packets =
    own_whole entries hook (stop_shown ran.accepted ran.stop) (map end_of (outcomes_of ran.state hook packets)) (closing_text ran hook packets) packets (each_ends ran hook packets)

-- ---- of a walk that was made
pub walk_traced : (ran : Ran) (hook : Hook) (capture : Capture) (walk : BatchWalk) (entries : List Entry) → IsWalked ran hook capture walk
    → told_trace walk.text entries hook capture.packets ≡ trace_text ran entries hook capture.packets
unfolding trace_text
walk_traced ran hook capture walk entries is =
    ap (λ (stop : List ℕ). text_in (parts_with stop walk.text.ends walk.text.closing.items entries hook capture.packets)) is.stop
    ∙ ap (λ (ends : List PacketEnd). text_in (parts_with (stop_shown ran.accepted ran.stop) ends walk.text.closing.items entries hook capture.packets)) is.ends
    ∙ ap (λ (closing : List ℕ). text_in (parts_with (stop_shown ran.accepted ran.stop) (map end_of (outcomes_of ran.state hook capture.packets)) closing entries hook capture.packets)) is.closing

pub walk_each : (ran : Ran) (hook : Hook) (capture : Capture) (walk : BatchWalk) → IsWalked ran hook capture walk → length walk.text.ends ≡ length capture.packets
walk_each ran hook capture walk is = ap length is.ends ∙ each_ends ran hook capture.packets

-- the commands' edits and their walk give the trace of their run
pub told_is_trace : (commands : List Command) (ran : Ran) (hook : Hook) (capture : Capture) (walk : BatchWalk) (entries : List Entry) → AreAccepted commands entries → IsWalked ran hook capture walk
    → IsTraceOf commands ran hook capture.packets (told_trace walk.text entries hook capture.packets)
told_is_trace commands ran hook capture walk entries accepted is = record { entries = entries; accepted = accepted; text_is = walk_traced ran hook capture walk entries is }

-- ---- counts that are the same count the same
pub same_counts : (hook : Hook) (one other : ℕ → ℕ) (brought : List Brought) → ((edit : ℕ) → one edit ≡ other edit) → standing_lines hook one brought ≡ standing_lines hook other brought
same_counts hook one other brought same = each (filter (is_standing hook) brought)
  where
    each : (some : List Brought) → map (λ (b : Brought). decided_line (one b.by.edit) b) some ≡ map (λ (b : Brought). decided_line (other b.by.edit) b) some
    each [] = refl
    each (b ∷ some) = ap₂ (λ (line : List ℕ) (lines : List (List ℕ)). line ∷ lines) (ap (λ (n : ℕ). decided_line n b) (same b.by.edit)) (each some)

-- the lines of those that stand, one after the other
pub standing_shown : (hook : Hook) (times : ℕ → ℕ) (brought : List Brought) → flat_map (shown_standing hook times) brought ≡ joined (standing_lines hook times brought)
standing_shown hook times [] = refl
standing_shown hook times (b ∷ brought) = by_test (is_standing hook b) b (flat_map (shown_standing hook times) brought) (filter (is_standing hook) brought) (standing_shown hook times brought)
  where
    by_test : (test : Bool) (b : Brought) (shown : List ℕ) (kept : List Brought) → shown ≡ joined (map (λ (one : Brought). decided_line (times one.by.edit) one) kept)
        → (if test then decided_line (times b.by.edit) b else []) ++ shown ≡ joined (map (λ (one : Brought). decided_line (times one.by.edit) one) (cond test (b ∷ kept) kept))
    by_test true b shown kept same = ap (λ (text : List ℕ). decided_line (times b.by.edit) b ++ text) same
    by_test false b shown kept same = same

-- ---- a packet for the next end
pub has_packet : (ends yielded rest : List PacketEnd) (end : PacketEnd) (packets : List Packet) (place : ℕ) → ends ≡ yielded ++ end ∷ rest → place ≡ length yielded → length ends ≡ length packets
    → place < length packets
has_packet ends yielded rest end packets place whole at each =
    let long = ap length whole ∙ length-append yielded (end ∷ rest) in
    omega (arith, long, at, each)
