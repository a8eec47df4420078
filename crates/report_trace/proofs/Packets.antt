-- The packets of a capture, one after the other.
use Rattle.std.proofs.Common.{◌≡◌, ◌∙◌, ◌≤◌, ℕ, zero, suc, ◌+◌, List, [], ◌∷◌, ◌++◌, length, drop, Option, Some, refl, sym, ap, subst, arith, append_assoc}
use Rattle.std.specs.Prelude.{slice_get}
use Rattle.std.proofs.lemmas.List.Sums.{sum_by-append}
use Rattle.tc_base.specs.declared.hook.Hook.{Hook}
use Rattle.pcap_io.specs.declared.capture.Packet.{Packet}
use Rattle.run_report.specs.declared.outcomes.Outcome.{Outcome}
use Rattle.run_report.specs.PacketTexts.{packet_line}
use Rattle.batch_trace.specs.Passed.{Entry}
use Rattle.trace_lines.specs.Lines.{decided_in}
use Rattle.walk_trace.specs.Tallies.{times_in}
use Rattle.batch_trace.specs.Passed.{names_of}
use Rattle.batch_trace.specs.Traced.{text_in}
use Rattle.batch_trace.proofs.Parts.{from_place}
use Rattle.report_trace.specs.Traced.{met_at, steps_at, packet_parts, decided_by}
use Rattle.report_trace.specs.Writing.{IsBehind, lines_from, arrivals_of, NextPacket, IsNextPacket, PacketsLeft, ArePackets}

abbrev pub with_outcomes : PacketsLeft → List Outcome → PacketsLeft
with_outcomes all outcomes = record all { outcomes = outcomes }

-- the next one
abbrev pub next_of : PacketsLeft → List Entry → ℕ → Hook → List Packet → Outcome → List Outcome → NextPacket
next_of all entries number hook packets outcome outcomes = record {
  first = all.first;
  whole = all.whole;
  outcome = outcome;
  lines = lines_from (number + 1) outcomes ++ all.lines;
  rest = text_in (packet_parts entries (number + 1) (arrivals_of hook packets) outcomes) ++ all.rest;
}

pub record HasNext (all : PacketsLeft) (entries : List Entry) (now : Option (List ℕ)) (left : List ℕ) (number : ℕ) (hook : Hook) (packet : Packet) (packets : List Packet) (workers : ℕ) : Type 0 where
  pub outcome : Outcome
  pub outcomes : List Outcome
  pub outcomes_are : all.outcomes ≡ outcome ∷ outcomes
  pub is_next : IsNextPacket (next_of all entries number hook packets outcome outcomes) entries now left number hook packet.bytes workers

module _ (all : PacketsLeft) (entries : List Entry) (now : Option (List ℕ)) (left : List ℕ) (number : ℕ) (hook : Hook) (packet : Packet) (packets : List Packet) (workers : ℕ) where
  pub has_next : ArePackets all entries now left number hook (packet ∷ packets) workers → HasNext all entries now left number hook packet packets workers
  has_next are = by_outcomes all.outcomes refl
    where
      by_outcomes : (outcomes : List Outcome) → all.outcomes ≡ outcomes → HasNext all entries now left number hook packet packets workers
      by_outcomes [] is = absurd (let each = are.each in let none = ap length is in omega (arith, each, none))
      by_outcomes (outcome ∷ outcomes) is =
          let met : List ℕ = met_at entries number hook packet.bytes outcome.points in
          let line : List ℕ = packet_line number outcome in
          let more : List ℕ = text_in (packet_parts entries (number + 1) (arrivals_of hook packets) outcomes) in
          let text : (met ++ (line ++ more)) ++ all.rest ≡ met ++ (line ++ (more ++ all.rest)) = append_assoc met (line ++ more) all.rest ∙ ap (λ (ls : List ℕ). met ++ ls) (append_assoc line more all.rest) in
          let here : ArePackets (with_outcomes all (outcome ∷ outcomes)) entries now left number hook (packet ∷ packets) workers =
          subst (λ (os : List Outcome). ArePackets (with_outcomes all os) entries now left number hook (packet ∷ packets) workers) is are in
          record {
            outcome = outcome;
            outcomes = outcomes;
            outcomes_are = is;
            is_next = record {
              fit = here.fit.0;
              behind = subst (IsBehind all.first now all.whole left (packet_line number outcome ∷ (lines_from (number + 1) outcomes ++ all.lines))) text here.behind;
            };
          }

  -- and those behind it
  pub packets_on : (are : ArePackets all entries now left number hook (packet ∷ packets) workers) (it : HasNext all entries now left number hook packet packets workers) (then : Option (List ℕ)) (behind : List ℕ)
      → IsBehind all.first then all.whole behind (lines_from (number + 1) it.outcomes ++ all.lines) (text_in (packet_parts entries (number + 1) (arrivals_of hook packets) it.outcomes) ++ all.rest)
      → ArePackets (with_outcomes all it.outcomes) entries then behind (number + 1) hook packets workers
  packets_on are it then behind is = record {
    each = (let each = are.each in let same = ap length it.outcomes_are in omega (arith, each, same));
    fit = (subst (λ (os : List Outcome). ArePackets (with_outcomes all os) entries now left number hook (packet ∷ packets) workers) it.outcomes_are are).fit.1;
    behind = is;
  }

  pub decided_next : (it : HasNext all entries now left number hook packet packets workers) (edit : ℕ)
      → times_in (decided_by entries (arrivals_of hook (packet ∷ packets)) all.outcomes) edit ≡ times_in (decided_in (names_of entries) (steps_at entries hook packet.bytes it.outcome.points)) edit + times_in (decided_by entries (arrivals_of hook packets) it.outcomes) edit
  decided_next it edit =
      ap (λ (os : List Outcome). times_in (decided_by entries (arrivals_of hook (packet ∷ packets)) os) edit) it.outcomes_are
      ∙ sum_by-append _ (decided_in (names_of entries) (steps_at entries hook packet.bytes it.outcome.points)) (decided_by entries (arrivals_of hook packets) it.outcomes)

-- ---- by their places
pub drop_next : {X : Type 0} (xs : List X) (k : ℕ) (x : X) (more : List X) → drop k xs ≡ x ∷ more → drop (k + 1) xs ≡ more
drop_next [] zero x more is = absurd (cc is)
drop_next [] (suc k) x more is = absurd (cc is)
drop_next (first ∷ xs) zero x more is = cc is
drop_next (first ∷ xs) (suc k) x more is = let next : suc k + 1 ≡ suc (k + 1) = omega arith in ap (λ (n : ℕ). drop n (first ∷ xs)) next ∙ drop_next xs k x more is

-- the one at a place
abbrev pub left_at : PacketsLeft → ℕ → PacketsLeft
left_at all place = with_outcomes all (drop place all.outcomes)

module _ (all : PacketsLeft) (entries : List Entry) (now : Option (List ℕ)) (left : List ℕ) (place : ℕ) (hook : Hook) (packets : List Packet) (packet : Packet) (workers : ℕ) where
  here_at : ArePackets (left_at all place) entries now left (place + 1) hook (drop place packets) workers → slice_get packets place ≡ Some packet
      → ArePackets (left_at all place) entries now left (place + 1) hook (packet ∷ drop (place + 1) packets) workers
  here_at are there = subst (λ (ps : List Packet). ArePackets (left_at all place) entries now left (place + 1) hook ps workers) (from_place packets place packet there) are

  pub next_at : ArePackets (left_at all place) entries now left (place + 1) hook (drop place packets) workers → slice_get packets place ≡ Some packet
      → HasNext (left_at all place) entries now left (place + 1) hook packet (drop (place + 1) packets) workers
  next_at are there = has_next (left_at all place) entries now left (place + 1) hook packet (drop (place + 1) packets) workers (here_at are there)

  pub on_at : (are : ArePackets (left_at all place) entries now left (place + 1) hook (drop place packets) workers) (there : slice_get packets place ≡ Some packet) (then : Option (List ℕ)) (behind : List ℕ)
      → IsBehind all.first then all.whole behind (lines_from (place + 1 + 1) (next_at are there).outcomes ++ all.lines) (text_in (packet_parts entries (place + 1 + 1) (arrivals_of hook (drop (place + 1) packets)) (next_at are there).outcomes) ++ all.rest)
      → ArePackets (left_at all (place + 1)) entries then behind (place + 1 + 1) hook (drop (place + 1) packets) workers
  on_at are there then behind is =
      let it = next_at are there in
      subst (λ (os : List Outcome). ArePackets (with_outcomes all os) entries then behind (place + 1 + 1) hook (drop (place + 1) packets) workers) (sym (drop_next all.outcomes place it.outcome it.outcomes it.outcomes_are))
      (packets_on (left_at all place) entries now left (place + 1) hook packet (drop (place + 1) packets) workers (here_at are there) it then behind is)

  pub decided_at_place : (are : ArePackets (left_at all place) entries now left (place + 1) hook (drop place packets) workers) (there : slice_get packets place ≡ Some packet) (edit : ℕ)
      → times_in (decided_by entries (arrivals_of hook (drop place packets)) (drop place all.outcomes)) edit
      ≡ times_in (decided_in (names_of entries) (steps_at entries hook packet.bytes (next_at are there).outcome.points)) edit + times_in (decided_by entries (arrivals_of hook (drop (place + 1) packets)) (drop (place + 1) all.outcomes)) edit
  decided_at_place are there edit =
      let it = next_at are there in
      ap (λ (ps : List Packet). times_in (decided_by entries (arrivals_of hook ps) (drop place all.outcomes)) edit) (from_place packets place packet there)
      ∙ decided_next (left_at all place) entries now left (place + 1) hook packet (drop (place + 1) packets) workers it edit
      ∙ ap (λ (os : List Outcome). times_in (decided_in (names_of entries) (steps_at entries hook packet.bytes it.outcome.points)) edit + times_in (decided_by entries (arrivals_of hook (drop (place + 1) packets)) os) edit)
      (sym (drop_next all.outcomes place it.outcome it.outcomes it.outcomes_are))

-- ---- all of them are told
drop_all : {X : Type 0} (xs : List X) (k : ℕ) → length xs ≤ k → drop k xs ≡ []
drop_all [] zero within = refl
drop_all [] (suc k) within = refl
drop_all (x ∷ xs) zero within = absurd (omega (arith, within))
drop_all (x ∷ xs) (suc k) within = drop_all xs k (omega (arith, within))

module _ (all : PacketsLeft) (entries : List Entry) (now : Option (List ℕ)) (left : List ℕ) (hook : Hook) (packets : List Packet) (workers : ℕ) where
  none_more : (number : ℕ) (outcomes : List Outcome) → ArePackets (with_outcomes all outcomes) entries now left number hook [] workers → IsBehind all.first now all.whole left all.lines all.rest
  none_more number [] are = are.behind
  none_more number (outcome ∷ outcomes) are = absurd (let each : length (outcome ∷ outcomes) ≡ 0 = are.each in omega (arith, each))

  pub all_told : (place : ℕ) → length packets ≤ place → ArePackets (left_at all place) entries now left (place + 1) hook (drop place packets) workers → IsBehind all.first now all.whole left all.lines all.rest
  all_told place whole are =
      none_more (place + 1) (drop place all.outcomes) (subst (λ (ps : List Packet). ArePackets (left_at all place) entries now left (place + 1) hook ps workers) (drop_all packets place whole) are)

pub none_decided : (entries : List Entry) (hook : Hook) (packets : List Packet) (outcomes : List Outcome) (place edit : ℕ) → length packets ≤ place → times_in (decided_by entries (arrivals_of hook (drop place packets)) outcomes) edit ≡ 0
none_decided entries hook packets outcomes place edit whole =
    ap (λ (ps : List Packet). times_in (decided_by entries (arrivals_of hook ps) outcomes) edit) (drop_all packets place whole)
