-- How far the trace of a report is written (this project's own).
use Rattle.std.specs.Prelude.{◌≡◌, ℕ, ◌+◌, ◌≤◌, ◌==◌, ◌||◌, Bool, true, List, [], ◌∷◌, ◌++◌, length, map}
use Rattle.std.specs.Prelude.{get_or, Option}
use Rattle.tc_base.specs.Outside.{Appended}
use Rattle.tc_base.specs.declared.hook.Hook.{Hook}
use Rattle.pcap_io.specs.declared.capture.Packet.{Packet}
use Rattle.filter_state.specs.Sound.{Each}
use Rattle.walk_texts.specs.Texts.{joined}
use Rattle.run_report.specs.declared.outcomes.Outcome.{Outcome}
use Rattle.run_report.specs.PacketTexts.{packet_line}
use Rattle.lawful_runs.specs.Given.{Arrival}
use Rattle.batch_trace.specs.Passed.{Entry}
use Rattle.report_check.specs.Passed.{cut}
use Rattle.report_check.specs.OfReading.Packets.{IsSmall}
use Rattle.batch_trace.specs.Traced.{text_in}
use Rattle.report_trace.specs.Traced.{met_at, packet_parts}

-- nothing is told before this line: it begins as `round`, `refused`, `edit` and `end` do
abbrev pub is_plain : List ℕ → Bool
is_plain line = get_or line 0 0 == 114 || get_or line 0 0 == 101

abbrev pub ArePlain : List (List ℕ) → Type 0
ArePlain lines = Each (λ (line : List ℕ). is_plain line ≡ true) lines

-- A FRONT OF A TEXT IS WRITTEN, since the sink had told that; this is left of it
pub record IsWritten (first now : Option (List ℕ)) (whole rest : List ℕ) : Type 0 where
  pub gone : List ℕ
  pub wrote : Appended first now gone
  pub whole_is : whole ≡ gone ++ rest

-- THE REPORT'S BYTES FROM HERE are some plain lines and then these; of the text those plain lines are left and
-- then this
pub record IsBehind (first now : Option (List ℕ)) (whole bytes : List ℕ) (lines : List (List ℕ))
    (rest : List ℕ) : Type 0 where
  pub plain : List (List ℕ)
  pub each : ArePlain plain
  pub cut_is : cut bytes ≡ plain ++ lines
  pub written : IsWritten first now whole (joined plain ++ rest)

-- ---- packets
-- a packet's worker is one of so many, and its points are among those of so many edits; they are numbers of 32
-- bits
pub record IsFit (workers edits : ℕ) (outcome : Outcome) : Type 0 where
  pub least : 1 ≤ outcome.worker
  pub most : outcome.worker ≤ workers
  pub points : Each (λ (point : ℕ). point ≤ edits) outcome.points
  pub small : IsSmall outcome

-- a packet's text is left, with what it met before its line
pub record NextPacket : Type 0 where
  pub first : Option (List ℕ)
  pub whole : List ℕ
  pub outcome : Outcome
  pub lines : List (List ℕ)
  pub rest : List ℕ

pub record IsNextPacket (next : NextPacket) (entries : List Entry) (now : Option (List ℕ)) (left : List ℕ)
    (number : ℕ) (hook : Hook) (bytes : List ℕ) (workers : ℕ) : Type 0 where
  pub fit : IsFit workers (length entries) next.outcome
  pub behind : IsBehind next.first now next.whole left (packet_line number next.outcome ∷ next.lines)
      (met_at entries number hook bytes next.outcome.points ++ (packet_line number next.outcome ++ next.rest))

-- the lines of packets, numbered from here
abbrev pub lines_from : ℕ → List Outcome → List (List ℕ)
lines_from number [] = []
lines_from number (outcome ∷ outcomes) = packet_line number outcome ∷ lines_from (number + 1) outcomes

abbrev pub arrivals_of : Hook → List Packet → List Arrival
arrivals_of hook packets = map (λ (packet : Packet). record { hook = hook; packet = packet }) packets

-- the texts of packets are left
pub record PacketsLeft : Type 0 where
  pub first : Option (List ℕ)
  pub whole : List ℕ
  pub outcomes : List Outcome
  pub lines : List (List ℕ)
  pub rest : List ℕ

pub record ArePackets (all : PacketsLeft) (entries : List Entry) (now : Option (List ℕ)) (left : List ℕ)
    (number : ℕ) (hook : Hook) (packets : List Packet) (workers : ℕ) : Type 0 where
  pub each : length all.outcomes ≡ length packets
  pub fit : Each (IsFit workers (length entries)) all.outcomes
  pub behind : IsBehind all.first now all.whole left (lines_from number all.outcomes ++ all.lines)
      (text_in (packet_parts entries number (arrivals_of hook packets) all.outcomes) ++ all.rest)
