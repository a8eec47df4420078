-- No line of a walk's text begins as one that is told beside, and each ends at its one line feed.
use Rattle.std.proofs.Common.{◌≡◌, ◌∙◌, ℕ, ◌+◌, ◌==◌, Bool, true, false, List, [], ◌∷◌, ◌++◌, Option, Some, None, refl}
use Rattle.std.specs.Prelude.{map, codes, ◌&&◌, is_some, if◌then◌else◌}
use Rattle.std.specs.List.{join_with_byte}
use Rattle.std.specs.Fmt.{decimal}
use Rattle.tc_base.specs.declared.hook.Hook.{Hook}
use Rattle.frame_edit.specs.declared.meta.Meta.{Meta}
use Rattle.pcap_io.specs.declared.capture.Packet.{Packet}
use Rattle.filter_state.specs.declared.refusal.Refusal.{Refusal}
use Rattle.filter_state.specs.declared.refusal.Refusal.TheVariants as refusals
use Rattle.line_texts.specs.Texts.{handle_text, protocol_text, class_text}
use Rattle.tc_batch.specs.KindNames.{kind_text}
use Rattle.walk_rules.specs.declared.verdict.Verdict.{Verdict}
use Rattle.walk_rules.specs.declared.verdict.Verdict.TheVariants as verdicts
use Rattle.walk_rules.specs.Walks.{Outcome}
use Rattle.batch_run.specs.declared.made_action.MadeAction.{MadeAction}
use Rattle.batch_run.specs.declared.stop.Stop.{Stop}
use Rattle.batch_run.specs.declared.stop.Stop.TheVariants as stops
use Rattle.batch_run.specs.Runs.{Ran}
use Rattle.tc_report.specs.Refusals.{refusal_words, syntax_words, place_words, refused_line}
use Rattle.tc_report.specs.OfShownBatches.Shown.{stop_shown}
use Rattle.walk_ends.specs.declared.counts.Count.{Count}
use Rattle.walk_texts.specs.declared.summary.Summary.{Summary}
use Rattle.walk_texts.specs.Texts.{joined, counted, verdict_text, meta_text, end_text, action_text, count_text, counter_line, edits_text, verdicts_text, summary_line}
use Rattle.capture_walk.specs.declared.ends.PacketEnd.{PacketEnd}
use Rattle.capture_walk.specs.Captures.{outcomes_of, end_of, counts_of, executed_in}
use Rattle.batch_walk.specs.Texts.{packet_line, counter_lines, closing_lines}
use Rattle.batch_walk.specs.Walked.{summary_of, closing_text, walk_text}
use Rattle.filter_origins.specs.Entries.{Entry}
use Rattle.walk_trace.specs.Tallies.{times_in}
use Rattle.journal_names.specs.Known.{names_of}
use Rattle.batch_trace.specs.Traced.{decisions, decided_lines, steps_in, Part, own, told, packet_parts, trace_parts, trace_text}
use Rattle.batch_trace.specs.Untold.{without_told}
use Rattle.batch_trace.proofs.Parts.{nothing_else}
use Rattle.batch_trace.proofs.Untold.{free, Stays, AllStay, line_stays, none_stays, all_stay_append, joined_stay, AreFair, fair_append, own_left}
use Rattle.batch_trace.proofs.Free.{free_append, all_free, word_more, words_append, spaced_free, decimal_free, handle_free, protocol_free, class_free, kind_free}
use Rattle.batch_trace.proofs.ToldLines.{walk_goes, counts_go}

-- ---- pieces
pub label_free : (label : List ℕ) (n : ℕ) → free label ≡ true → free (counted label n) ≡ true
unfolding counted
label_free label n is = free_append label (decimal n) is (decimal_free n)

meta_free : (meta : Meta) → free (meta_text meta) ≡ true
meta_free meta =
    by_test (meta.priority == 0 && (meta.mark == 0 && meta.queue == 0)) _
    (free_append ((codes " priority " ++ class_text meta.priority) ++ counted (codes " mark ") meta.mark) (counted (codes " queue ") meta.queue)
    (free_append (codes " priority " ++ class_text meta.priority) (counted (codes " mark ") meta.mark) (free_append (codes " priority ") (class_text meta.priority) refl (class_free meta.priority)) (label_free (codes " mark ") meta.mark refl))
    (label_free (codes " queue ") meta.queue refl))
  where
    by_test : (test : Bool) (text : List ℕ) → free text ≡ true → free (if test then [] else text) ≡ true
    by_test true text is = refl
    by_test false text is = is

verdict_free : (verdict : Verdict) → free (verdict_text verdict) ≡ true
verdict_free verdicts.Pass = refl
verdict_free verdicts.Drop = refl

pub end_free : (verdict : Verdict) (size : ℕ) (meta : Meta) → free (end_text verdict size meta) ≡ true
unfolding end_text
end_free verdict size meta = free_append (counted (verdict_text verdict) size) (meta_text meta) (label_free (verdict_text verdict) size (verdict_free verdict)) (meta_free meta)

-- ---- the refused line
refusal_free : (refusal : Refusal) → all_free (refusal_words refusal) ≡ true
refusal_free refusals.NoHook = refl
refusal_free refusals.HookExists = refl
refusal_free refusals.HookInUse = refl
refusal_free refusals.NoPref = refl
refusal_free (refusals.ProtocolClash protocol) = word_more (protocol_text protocol) [] (protocol_free protocol) refl
refusal_free refusals.NoSuchTable = refl
refusal_free refusals.NoSuchFilter = refl
refusal_free refusals.HandleTaken = refl
refusal_free (refusals.Exists handle) = word_more (handle_text handle) [] (handle_free handle) refl
refusal_free (refusals.NoSuchAction kind index) = word_more (kind_text kind) (decimal index ∷ []) (kind_free kind) (word_more (decimal index) [] (decimal_free index) refl)
refusal_free refusals.ActionExists = refl
refusal_free (refusals.ActionBound binds) = word_more (decimal binds) [] (decimal_free binds) refl
refusal_free refusals.TablesFull = refl
refusal_free refusals.MasksFull = refl
refusal_free refusals.FiltersFull = refl
refusal_free refusals.ActionsFull = refl
refusal_free refusals.CountersFull = refl
refusal_free (refusals.NoMemory memory) = refl

refused_stays : (accepted control line : ℕ) (reason : List (List ℕ)) → all_free reason ≡ true → Stays (refused_line accepted control line reason)
refused_stays accepted control line reason is =
    line_stays (join_with_byte 32 (place_words accepted control line ++ reason))
    (spaced_free (place_words accepted control line ++ reason)
    (words_append (place_words accepted control line) reason
    (word_more (decimal accepted) (codes "control" ∷ decimal control ∷ codes "line" ∷ decimal line ∷ []) (decimal_free accepted)
    (word_more (decimal control) (codes "line" ∷ decimal line ∷ []) (decimal_free control) (word_more (decimal line) [] (decimal_free line) refl))) is)) refl

pub refusal_stays : (accepted control line : ℕ) (refusal : Refusal) → Stays (refused_line accepted control line (refusal_words refusal))
refusal_stays accepted control line refusal = refused_stays accepted control line (refusal_words refusal) (refusal_free refusal)

pub syntax_stays : (accepted control line word : ℕ) → Stays (refused_line accepted control line (syntax_words word))
syntax_stays accepted control line word = refused_stays accepted control line (syntax_words word) (word_more (decimal word) [] (decimal_free word) refl)

stop_stays : (accepted : ℕ) (stop : Option Stop) → Stays (stop_shown accepted stop)
stop_stays accepted None = none_stays
stop_stays accepted (Some (stops.Refused line refusal)) = refusal_stays accepted 1 line refusal
stop_stays accepted (Some (stops.Syntax line word)) = syntax_stays accepted 1 line word

-- ---- the other lines
packet_stays : (number : ℕ) (end : PacketEnd) → Stays (packet_line number end)
unfolding counted
packet_stays number end =
    line_stays (counted (codes "packet ") number ++ end_text end.verdict end.length end.meta)
    (free_append (counted (codes "packet ") number) (end_text end.verdict end.length end.meta) (label_free (codes "packet ") number refl) (end_free end.verdict end.length end.meta)) refl

pub counter_stays : (made : MadeAction) (count : Count) → Stays (counter_line made count)
unfolding action_text count_text counted
counter_stays made count =
    let front : List ℕ = counted (codes "counter serial ") made.serial in
    let named : List ℕ = (front ++ codes " ") ++ kind_text made.kind in
    let first : List ℕ = named ++ counted (codes " index ") made.index in
    let second : List ℕ = counted (codes " packets ") count.packets ++ counted (codes " bytes ") count.bytes in
    line_stays (first ++ second)
    (free_append first second
    (free_append named (counted (codes " index ") made.index)
    (free_append (front ++ codes " ") (kind_text made.kind) (free_append front (codes " ") (label_free (codes "counter serial ") made.serial refl) refl) (kind_free made.kind)) (label_free (codes " index ") made.index refl))
    (free_append (counted (codes " packets ") count.packets) (counted (codes " bytes ") count.bytes) (label_free (codes " packets ") count.packets refl) (label_free (codes " bytes ") count.bytes refl))) refl

pub summary_stays : (summary : Summary) → Stays (summary_line summary)
unfolding edits_text verdicts_text counted
summary_stays summary =
    let first : List ℕ = counted (codes "summary edits ") summary.edits ++ counted (codes " refused ") summary.refused in
    let ended : List ℕ = counted (codes " packets ") (summary.passed + summary.dropped) ++ counted (codes " passed ") summary.passed in
    let second : List ℕ = ended ++ counted (codes " dropped ") summary.dropped in
    line_stays (first ++ second)
    (free_append first second
    (free_append (counted (codes "summary edits ") summary.edits) (counted (codes " refused ") summary.refused) (label_free (codes "summary edits ") summary.edits refl) (label_free (codes " refused ") summary.refused refl))
    (free_append ended (counted (codes " dropped ") summary.dropped)
    (free_append (counted (codes " packets ") (summary.passed + summary.dropped)) (counted (codes " passed ") summary.passed) (label_free (codes " packets ") (summary.passed + summary.dropped) refl) (label_free (codes " passed ") summary.passed refl))
    (label_free (codes " dropped ") summary.dropped refl))) refl

counters_stay : (made : List MadeAction) (counts : List Count) → AllStay (counter_lines made counts)
counters_stay [] counts = tt
counters_stay (m ∷ made) counts = (counter_stays m _, counters_stay made counts)

pub end_stays : Stays (codes "end\n")
end_stays = line_stays (codes "end") refl refl

closing_stays : (ran : Ran) (hook : Hook) (packets : List Packet) → Stays (closing_text ran hook packets)
unfolding closing_text
closing_stays ran hook packets =
    let outcomes : List Outcome = outcomes_of ran.state hook packets in
    let counts : List Count = counts_of ran.state.actions_made (executed_in outcomes) in
    let summary : Summary = summary_of ran.accepted (is_some ran.stop) (map end_of outcomes) in
    joined_stay (closing_lines ran.made counts summary) (all_stay_append (counter_lines ran.made counts) (summary_line summary ∷ codes "end\n" ∷ []) (counters_stay ran.made counts) (summary_stays summary, (end_stays, tt)))

-- ---- the parts
packets_fair : (entries : List Entry) (hook : Hook) (number : ℕ) (packets : List Packet) (ends : List PacketEnd) → AreFair (packet_parts entries hook number packets ends)
packets_fair entries hook number [] ends = tt
packets_fair entries hook number (packet ∷ packets) [] = tt
packets_fair entries hook number (packet ∷ packets) (end ∷ ends) =
    (walk_goes (record { packet = number; points = false }) (names_of entries) None (steps_in entries hook packet.bytes), (packet_stays number end, packets_fair entries hook (number + 1) packets ends))

-- THE TRACE WITHOUT THESE LINES IS THE TEXT OF THE WALK
pub only_walk_left : (ran : Ran) (entries : List Entry) (hook : Hook) (packets : List Packet) → without_told (trace_text ran entries hook packets) ≡ walk_text ran hook packets
unfolding trace_text
only_walk_left ran entries hook packets =
    let parts : List Part = packet_parts entries hook 1 packets (map end_of (outcomes_of ran.state hook packets)) in
    let last : List Part = told (joined (decided_lines entries hook packets)) ∷ own (closing_text ran hook packets) ∷ [] in
    own_left (trace_parts ran entries hook packets) (
      stop_stays ran.accepted ran.stop,
      fair_append parts last (packets_fair entries hook 1 packets (map end_of (outcomes_of ran.state hook packets)))
          (counts_go (times_in (decisions entries hook packets)) _, (closing_stays ran hook packets, tt)),
    )
    ∙ nothing_else ran entries hook packets
