-- THE TEXT OF A TRACE (this project's own): the text of a walk, and between its lines what each packet met and
-- how often each filter decided.
use Rattle.std.specs.Prelude.{◌≡◌, ℕ, ◌+◌, ◌&&◌, Bool, List, [], ◌∷◌, ◌++◌, length, map, filter, false, None, is_none}
use Rattle.std.specs.List.{flat_map}
use Rattle.tc_base.specs.declared.hook.Hook.{Hook}
use Rattle.pcap_io.specs.declared.capture.Packet.{Packet}
use Rattle.filter_state.specs.Tables.{hook_eq}
use Rattle.walk_rules.specs.declared.limits.TheConstants.{VISITS_MAX}
use Rattle.walk_rules.specs.Steps.{begun}
use Rattle.batch_run.specs.Commands.{Command}
use Rattle.batch_run.specs.Runs.{Ran}
use Rattle.tc_report.specs.OfShownBatches.Shown.{stop_shown}
use Rattle.walk_texts.specs.Texts.{joined}
use Rattle.capture_walk.specs.declared.ends.PacketEnd.{PacketEnd}
use Rattle.capture_walk.specs.Captures.{outcomes_of, end_of}
use Rattle.batch_walk.specs.declared.walk.WalkText.{WalkText}
use Rattle.batch_walk.specs.Texts.{packet_line}
use Rattle.batch_walk.specs.Walked.{closing_text}
use Rattle.filter_origins.specs.declared.brought.Brought.{Brought}
use Rattle.filter_origins.specs.Entries.{Entry}
use Rattle.filter_origins.specs.Origins.{brought_of}
use Rattle.trace_lines.specs.Steps.{Step, steps_of}
use Rattle.trace_lines.specs.Lines.{walk_lines, decided_in}
use Rattle.walk_trace.specs.Tallies.{times_in}
use Rattle.journal_names.specs.Known.{answers_in, names_of}
use Rattle.journal_names.specs.Decided.{decided_line}
use Rattle.batch_trace.specs.Accepted.{AreAccepted}

-- ---- a packet
-- the steps of its walk: each visit is answered by the state that all edits leave
abbrev pub steps_in : List Entry → Hook → List ℕ → List Step
steps_in entries hook bytes =
    steps_of (answers_in entries) (λ visit. length entries) VISITS_MAX (begun hook bytes)

-- what it met, line by line
abbrev pub met_text : List Entry → Hook → ℕ → List ℕ → List ℕ
met_text entries hook number bytes = joined (walk_lines (record { packet = number; points = false })
    (names_of entries) None (steps_in entries hook bytes))

-- ---- the filters
-- the edits that brought the filters which decided, each as often
abbrev pub decisions : List Entry → Hook → List Packet → List ℕ
decisions entries hook packets =
    flat_map (λ (packet : Packet). decided_in (names_of entries) (steps_in entries hook packet.bytes)) packets

-- no edit took it, and it stands at the hook
abbrev pub is_standing : Hook → Brought → Bool
is_standing hook brought = hook_eq brought.hook hook && is_none brought.gone

abbrev pub standing_lines : Hook → (ℕ → ℕ) → List Brought → List (List ℕ)
standing_lines hook times brought =
    map (λ (filter : Brought). decided_line (times filter.by.edit) filter) (filter (is_standing hook) brought)

-- how often each filter that stands at the hook decided, in the order of the edits that brought them
abbrev pub decided_lines : List Entry → Hook → List Packet → List (List ℕ)
decided_lines entries hook packets =
    standing_lines hook (times_in (decisions entries hook packets)) (brought_of entries)

-- ---- THE TEXT
-- a text that is the walk's own, or one that is told beside
pub data Part : Type 0 where
  own : List ℕ → Part
  told : List ℕ → Part

abbrev pub text_of : Part → List ℕ
text_of (own text) = text
text_of (told text) = text

abbrev pub own_of : Part → List ℕ
own_of (own text) = text
own_of (told text) = []

abbrev pub text_in : List Part → List ℕ
text_in parts = flat_map text_of parts

abbrev pub own_in : List Part → List ℕ
own_in parts = flat_map own_of parts

-- what each packet met, and its line, numbered from here
abbrev pub packet_parts : List Entry → Hook → ℕ → List Packet → List PacketEnd → List Part
packet_parts entries hook number (packet ∷ packets) (end ∷ ends) =
    told (met_text entries hook number packet.bytes) ∷ own (packet_line number end)
    ∷ packet_parts entries hook (number + 1) packets ends
packet_parts entries hook number packets ends = []

abbrev pub parts_with : List ℕ → List PacketEnd → List ℕ → List Entry → Hook → List Packet → List Part
parts_with stop ends closing entries hook packets =
    own stop ∷ (packet_parts entries hook 1 packets ends
    ++ (told (joined (decided_lines entries hook packets)) ∷ own closing ∷ []))

-- of a batch that ran, by its accepted edits: each packet ends as the plain walk of the state that is left
abbrev pub trace_parts : Ran → List Entry → Hook → List Packet → List Part
trace_parts ran entries hook packets = parts_with (stop_shown ran.accepted ran.stop)
    (map end_of (outcomes_of ran.state hook packets)) (closing_text ran hook packets) entries hook packets

unfoldable pub trace_text : Ran → List Entry → Hook → List Packet → List ℕ
trace_text ran entries hook packets = text_in (trace_parts ran entries hook packets)

-- of commands that ran: the trace by the edits that were accepted
pub record IsTraceOf (commands : List Command) (ran : Ran) (hook : Hook) (packets : List Packet) (text : List ℕ)
    : Type 0 where
  pub entries : List Entry
  pub accepted : AreAccepted commands entries
  pub text_is : text ≡ trace_text ran entries hook packets

-- by the parts of a walk's text
abbrev pub told_trace : WalkText → List Entry → Hook → List Packet → List ℕ
told_trace text entries hook packets =
    text_in (parts_with text.stop.items text.ends text.closing.items entries hook packets)
