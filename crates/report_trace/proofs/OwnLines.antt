-- Of a report's trace the lines that are told beside go, and the report's own stay.
use Rattle.std.proofs.Common.{◌≡◌, ◌∙◌, ℕ, ◌+◌, List, [], ◌∷◌, ◌++◌, length, None, true, refl, sym, ap}
use Rattle.std.specs.Prelude.{codes, map, take}
use Rattle.std.specs.List.{enumerate_from, flat_map}
use Rattle.std.specs.Fmt.{decimal}
use Rattle.filter_state.specs.declared.edit.Edit.{Edit}
use Rattle.filter_state.specs.declared.refusal.Done.{Done}
use Rattle.filter_state.specs.declared.refusal.Done.TheVariants as dones
use Rattle.line_texts.specs.Texts.{handle_text}
use Rattle.walk_texts.specs.Texts.{joined, counted, end_text}
use Rattle.run_report.specs.declared.events.EventKind.{EventKind}
use Rattle.run_report.specs.declared.events.EventKind.TheVariants as kinds
use Rattle.run_report.specs.declared.events.Event.{Event}
use Rattle.run_report.specs.declared.counters.CounterLine.{CounterLine}
use Rattle.run_report.specs.declared.outcomes.Outcome.{Outcome}
use Rattle.run_report.specs.declared.rounds.RoundRecord.{RoundRecord}
use Rattle.run_report.specs.declared.record.RunRecord.{RunRecord}
use Rattle.run_report.specs.Counts.{accepted_count, edits_in, summary_of}
use Rattle.run_report.specs.EventTexts.{serials_text, filter_name, filter_text, action_made_text, done_text, edit_place, kind_line, event_line, event_lines}
use Rattle.run_report.specs.PacketTexts.{packet_name, points_text, packet_line}
use Rattle.run_report.specs.Reports.{numbered_line, counter_lines, report_text}
use Rattle.lawful_runs.specs.declared.loaded.LoadedJob.{LoadedJob}
use Rattle.lawful_runs.specs.Given.{Arrival, GivenRound, given_rounds}
use Rattle.lawful_runs.specs.Lawful.{IsRunWith}
use Rattle.batch_trace.specs.Passed.{Entry, brought_of, names_of}
use Rattle.walk_trace.specs.Tallies.{times_in}
use Rattle.batch_trace.specs.Traced.{Part, own}
use Rattle.batch_trace.specs.Untold.{without_told}
use Rattle.batch_trace.proofs.Untold.{free, Stays, AllStay, line_stays, joined_stay, AreFair, fair_append, own_left}
use Rattle.batch_trace.proofs.Free.{free_append, all_free, word_more, join_free, decimal_free, handle_free}
use Rattle.batch_trace.proofs.ToldLines.{walk_goes, counts_go}
use Rattle.batch_trace.proofs.OwnLines.{label_free, end_free, refusal_stays, syntax_stays, counter_stays, summary_stays, end_stays}
use Rattle.report_trace.specs.Traced.{steps_in, decisions, packet_parts, round_parts, rounds_parts, entries_in, trace_parts, trace_text, IsTraceOf}
use Rattle.report_trace.proofs.Own.{nothing_else}

-- ---- events
decimals_free : (ns : List ℕ) → all_free (map decimal ns) ≡ true
decimals_free [] = refl
decimals_free (n ∷ ns) = word_more (decimal n) (map decimal ns) (decimal_free n) (decimals_free ns)

serials_free : (serials : List ℕ) → free (serials_text serials) ≡ true
serials_free [] = refl
serials_free (serial ∷ serials) = join_free 44 refl (map decimal (serial ∷ serials)) (decimals_free (serial ∷ serials))

filter_free : (pref handle : ℕ) (serials : List ℕ) → free (filter_text pref handle serials) ≡ true
unfolding filter_text filter_name
filter_free pref handle serials =
    let front : List ℕ = counted (codes "filter pref ") pref ++ codes " handle " in
    free_append ((front ++ handle_text handle) ++ codes " actions ") (serials_text serials)
    (free_append (front ++ handle_text handle) (codes " actions ")
    (free_append front (handle_text handle) (free_append (counted (codes "filter pref ") pref) (codes " handle ") (label_free (codes "filter pref ") pref refl) refl) (handle_free handle)) refl) (serials_free serials)

made_free : (index serial : ℕ) → free (action_made_text index serial) ≡ true
unfolding action_made_text
made_free index serial = free_append (counted (codes "action index ") index) (counted (codes " serial ") serial) (label_free (codes "action index ") index refl) (label_free (codes " serial ") serial refl)

done_free : (done : Done) → free (done_text done) ≡ true
done_free dones.Hooked = refl
done_free dones.Unhooked = refl
done_free (dones.Filter pref handle serials) = filter_free pref handle serials
done_free dones.FilterGone = refl
done_free dones.TableGone = refl
done_free (dones.ActionMade index serial) = made_free index serial
done_free dones.ActionChanged = refl
done_free dones.ActionGone = refl

accepted_stays : (before control line : ℕ) (done : Done) → Stays (kind_line before control line (kinds.Accepted done))
unfolding edit_place counted
accepted_stays before control line done =
    let edits : List ℕ = counted (codes "edit ") (before + 1) in
    let front : List ℕ = (edits ++ counted (codes " control ") control) ++ counted (codes " line ") line in
    line_stays ((front ++ codes " ") ++ done_text done)
    (free_append (front ++ codes " ") (done_text done)
    (free_append front (codes " ")
    (free_append (edits ++ counted (codes " control ") control) (counted (codes " line ") line)
    (free_append edits (counted (codes " control ") control) (label_free (codes "edit ") (before + 1) refl) (label_free (codes " control ") control refl)) (label_free (codes " line ") line refl)) refl) (done_free done)) refl

event_stays : (before control line : ℕ) (kind : EventKind) → Stays (kind_line before control line kind)
event_stays before control line (kinds.Accepted done) = accepted_stays before control line done
event_stays before control line (kinds.Refused refusal) = refusal_stays before control line refusal
event_stays before control line (kinds.Syntax word) = syntax_stays before control line word

mapped_stay : {X : Type 0} (line : X → List ℕ) → ((x : X) → Stays (line x)) → (xs : List X) → AllStay (map line xs)
mapped_stay line each [] = tt
mapped_stay line each (x ∷ xs) = (each x, mapped_stay line each xs)

events_stay : (before : ℕ) (events : List Event) → Stays (joined (event_lines before events))
events_stay before events =
    joined_stay (event_lines before events)
    (mapped_stay (λ (placed : ℕ × Event). event_line (before + accepted_count (take placed.0 events)) placed.1)
    (λ placed. event_stays (before + accepted_count (take placed.0 events)) placed.1.control placed.1.line placed.1.kind) (enumerate_from 0 events))

-- ---- packets
points_free : (points : List ℕ) → free (points_text points) ≡ true
unfolding points_text
points_free points = free_append (codes " points") (flat_map (λ (point : ℕ). counted (codes " ") point) points) refl (each points)
  where
    each : (some : List ℕ) → free (flat_map (λ (point : ℕ). counted (codes " ") point) some) ≡ true
    each [] = refl
    each (p ∷ some) = free_append (counted (codes " ") p) (flat_map (λ (point : ℕ). counted (codes " ") point) some) (label_free (codes " ") p refl) (each some)

packet_stays : (number : ℕ) (outcome : Outcome) → Stays (packet_line number outcome)
unfolding packet_name counted
packet_stays number outcome =
    let name : List ℕ = counted (codes "packet ") number ++ counted (codes " worker ") outcome.worker in
    let end : List ℕ = end_text outcome.verdict (length outcome.bytes) outcome.meta in
    line_stays ((name ++ end) ++ points_text outcome.points)
    (free_append (name ++ end) (points_text outcome.points)
    (free_append name end (free_append (counted (codes "packet ") number) (counted (codes " worker ") outcome.worker) (label_free (codes "packet ") number refl) (label_free (codes " worker ") outcome.worker refl))
    (end_free outcome.verdict (length outcome.bytes) outcome.meta)) (points_free outcome.points)) refl

-- ---- the lines round them
round_stays : (number : ℕ) → Stays (numbered_line (codes "round ") number)
unfolding numbered_line counted
round_stays number = line_stays (counted (codes "round ") number) (label_free (codes "round ") number refl) refl

round_end_stays : (number : ℕ) → Stays (numbered_line (codes "end round ") number)
unfolding numbered_line counted
round_end_stays number = line_stays (counted (codes "end round ") number) (label_free (codes "end round ") number refl) refl

counters_stay : (counters : List CounterLine) → AllStay (counter_lines counters)
counters_stay [] = tt
counters_stay (c ∷ counters) = (counter_stays (record { serial = c.serial; kind = c.kind; index = c.index }) (record { packets = c.packets; bytes = c.bytes }), counters_stay counters)

-- ---- the parts
module _ (entries : List Entry) where
  packets_fair : (number : ℕ) (arrivals : List Arrival) (outcomes : List Outcome) → AreFair (packet_parts entries number arrivals outcomes)
  packets_fair number [] outcomes = tt
  packets_fair number (arrival ∷ arrivals) [] = tt
  packets_fair number (arrival ∷ arrivals) (outcome ∷ outcomes) =
      (walk_goes (record { packet = number; points = true }) (names_of entries) None (steps_in entries arrival outcome), (packet_stays number outcome, packets_fair (number + 1) arrivals outcomes))

  round_fair : (number before : ℕ) (round : GivenRound) (it : RoundRecord) → AreFair (round_parts entries number before round it)
  round_fair number before round it = (
    round_stays number,
    (events_stay before it.events, fair_append (packet_parts entries 1 round.arrivals it.outcomes) (own (numbered_line (codes "end round ") number) ∷ []) (packets_fair 1 round.arrivals it.outcomes) (round_end_stays number, tt)),
  )

  rounds_fair : (number before : ℕ) (rounds : List GivenRound) (its : List RoundRecord) → AreFair (rounds_parts entries number before rounds its)
  rounds_fair number before [] its = tt
  rounds_fair number before (round ∷ rounds) [] = tt
  rounds_fair number before (round ∷ rounds) (it ∷ its) =
      fair_append (round_parts entries number before round it) (rounds_parts entries (number + 1) (before + edits_in (it ∷ [])) rounds its) (round_fair number before round it) (rounds_fair (number + 1) (before + edits_in (it ∷ [])) rounds its)

-- THE TRACE WITHOUT THESE LINES IS THE REPORT
only_report_left : (loaded : LoadedJob) (run : RunRecord) (journal : List Edit) → IsRunWith loaded run journal → without_told (trace_text loaded run (entries_in run journal)) ≡ report_text run
unfolding trace_text
only_report_left loaded run journal is =
    let entries : List Entry = entries_in run journal in
    let rounds : List Part = rounds_parts entries 1 0 (given_rounds loaded) run.rounds in
    own_left (trace_parts loaded run entries) (
      line_stays (codes "clsact report 1") refl refl,
      fair_append rounds _ (rounds_fair entries 1 0 (given_rounds loaded) run.rounds)
          (counts_go (times_in (decisions entries (given_rounds loaded) run.rounds)) (brought_of entries), (joined_stay (counter_lines run.counters) (counters_stay run.counters), (summary_stays (summary_of run.rounds), (end_stays, tt)))),
    )
    ∙ nothing_else loaded run journal is

pub report_left : (loaded : LoadedJob) (report text : List ℕ) → IsTraceOf loaded report text → without_told text ≡ report
report_left loaded report text is = ap without_told is.text_is ∙ only_report_left loaded is.run is.journal is.lawful ∙ sym is.reported
