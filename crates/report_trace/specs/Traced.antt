-- THE TEXT OF A REPORT'S TRACE (this project's own): the report, and between its lines what each packet met
-- and how often each filter decided.
use Rattle.std.specs.Prelude.{◌≡◌, ℕ, ◌+◌, true, List, [], ◌∷◌, ◌++◌, map, codes, get_or, None}
use Rattle.tc_base.specs.declared.hook.Hook.{Hook}
use Rattle.filter_state.specs.declared.edit.Edit.{Edit}
use Rattle.walk_rules.specs.declared.limits.TheConstants.{VISITS_MAX}
use Rattle.walk_rules.specs.Steps.{begun}
use Rattle.walk_texts.specs.Texts.{joined, summary_line}
use Rattle.run_report.specs.declared.outcomes.Outcome.{Outcome}
use Rattle.run_report.specs.declared.rounds.RoundRecord.{RoundRecord}
use Rattle.run_report.specs.declared.record.RunRecord.{RunRecord}
use Rattle.run_report.specs.Counts.{edits_in, summary_of}
use Rattle.run_report.specs.EventTexts.{event_lines}
use Rattle.run_report.specs.PacketTexts.{packet_line}
use Rattle.run_report.specs.Reports.{numbered_line, counter_lines, report_text}
use Rattle.lawful_runs.specs.declared.loaded.LoadedJob.{LoadedJob}
use Rattle.lawful_runs.specs.Given.{GivenRound, Arrival, given_rounds}
use Rattle.lawful_runs.specs.Lawful.{IsRunWith}
use Rattle.report_check.specs.Passed.{places_in}
use Rattle.batch_trace.specs.Passed.{Brought}
use Rattle.batch_trace.specs.Passed.{Entry, entries_of}
use Rattle.batch_trace.specs.Passed.{brought_of}
use Rattle.trace_lines.specs.Steps.{Step, steps_of}
use Rattle.trace_lines.specs.Lines.{walk_lines, decided_in}
use Rattle.walk_trace.specs.Tallies.{times_in}
use Rattle.batch_trace.specs.Passed.{answers_in, names_of}
use Rattle.batch_trace.specs.Passed.{decided_line}
use Rattle.batch_trace.specs.Traced.{Part, own, told, text_in}

-- ---- edits
-- the edits of its journal, each with its place
abbrev pub entries_in : RunRecord → List Edit → List Entry
entries_in run journal = entries_of (places_in run.rounds) journal

-- ---- a packet
-- the steps of a walk at a hook: each visit is answered by the state at its point
abbrev pub steps_at : List Entry → Hook → List ℕ → List ℕ → List Step
steps_at entries hook bytes points =
    steps_of (answers_in entries) (λ visit. get_or points visit 0) VISITS_MAX (begun hook bytes)

-- what it meets, line by line
abbrev pub met_at : List Entry → ℕ → Hook → List ℕ → List ℕ → List ℕ
met_at entries number hook bytes points = joined (walk_lines (record { packet = number; points = true })
    (names_of entries) None (steps_at entries hook bytes points))

-- of a packet: at the points that its line tells
abbrev pub steps_in : List Entry → Arrival → Outcome → List Step
steps_in entries arrival outcome = steps_at entries arrival.hook arrival.packet.bytes outcome.points

abbrev pub met_text : List Entry → ℕ → Arrival → Outcome → List ℕ
met_text entries number arrival outcome =
    met_at entries number arrival.hook arrival.packet.bytes outcome.points

-- ---- the filters
-- the edits that brought the filters which decided, each as often
abbrev pub decided_by : List Entry → List Arrival → List Outcome → List ℕ
decided_by entries (arrival ∷ arrivals) (outcome ∷ outcomes) =
    decided_in (names_of entries) (steps_in entries arrival outcome) ++ decided_by entries arrivals outcomes
decided_by entries arrivals outcomes = []

abbrev pub decisions : List Entry → List GivenRound → List RoundRecord → List ℕ
decisions entries (round ∷ rounds) (it ∷ its) =
    decided_by entries round.arrivals it.outcomes ++ decisions entries rounds its
decisions entries rounds its = []

-- how often each filter that an edit brought decided, in the order of these edits
abbrev pub decided_with : (ℕ → ℕ) → List Brought → List (List ℕ)
decided_with times brought =
    map (λ (filter : Brought). decided_line (times filter.by.edit) filter) brought

abbrev pub decided_lines : List Entry → List ℕ → List (List ℕ)
decided_lines entries edits = decided_with (times_in edits) (brought_of entries)

-- ---- THE TEXT
-- what each packet of a round met, and its line, numbered from here
abbrev pub packet_parts : List Entry → ℕ → List Arrival → List Outcome → List Part
packet_parts entries number (arrival ∷ arrivals) (outcome ∷ outcomes) =
    told (met_text entries number arrival outcome) ∷ own (packet_line number outcome)
    ∷ packet_parts entries (number + 1) arrivals outcomes
packet_parts entries number arrivals outcomes = []

-- a round behind so many accepted edits
abbrev pub round_parts : List Entry → ℕ → ℕ → GivenRound → RoundRecord → List Part
round_parts entries number before round it =
    own (numbered_line (codes "round ") number) ∷ own (joined (event_lines before it.events))
    ∷ (packet_parts entries 1 round.arrivals it.outcomes
    ++ (own (numbered_line (codes "end round ") number) ∷ []))

-- the rounds from that number on, behind so many accepted edits
abbrev pub rounds_parts : List Entry → ℕ → ℕ → List GivenRound → List RoundRecord → List Part
rounds_parts entries number before (round ∷ rounds) (it ∷ its) = round_parts entries number before round it
    ++ rounds_parts entries (number + 1) (before + edits_in (it ∷ [])) rounds its
rounds_parts entries number before rounds its = []

-- of a run of the job, by the edits of its journal
abbrev pub trace_parts : LoadedJob → RunRecord → List Entry → List Part
trace_parts loaded run entries = own (codes "clsact report 1\n")
    ∷ (rounds_parts entries 1 0 (given_rounds loaded) run.rounds
    ++ (told (joined (decided_lines entries (decisions entries (given_rounds loaded) run.rounds)))
    ∷ own (joined (counter_lines run.counters)) ∷ own (summary_line (summary_of run.rounds))
    ∷ own (codes "end\n") ∷ []))

unfoldable pub trace_text : LoadedJob → RunRecord → List Entry → List ℕ
trace_text loaded run entries = text_in (trace_parts loaded run entries)

-- of a lawful report: the trace of the run that it is the report of
pub record IsTraceOf (loaded : LoadedJob) (report text : List ℕ) : Type 0 where
  pub run : RunRecord
  pub journal : List Edit
  pub lawful : IsRunWith loaded run journal
  pub reported : report ≡ report_text run
  pub text_is : text ≡ trace_text loaded run (entries_in run journal)
