-- How far the lines of a report have come, and which line may come next (this project's own).
use Rattle.std.specs.Prelude.{◌≡◌, ◌⊎◌, ℕ, ◌+◌, ◌≤◌, max, codes}
use Rattle.std.specs.Prelude.{List, [], ◌∷◌, ◌++◌, length, Option, Some, None, slice_get}
use Rattle.filter_state.specs.declared.edit.Edit.{Edit}
use Rattle.filter_state.specs.States.{State, no_state}
use Rattle.filter_state.specs.Journals.{state_from}
use Rattle.walk_texts.specs.Texts.{summary_line}
use Rattle.run_report.specs.declared.events.Event.{Event}
use Rattle.run_report.specs.declared.outcomes.Outcome.{Outcome}
use Rattle.run_report.specs.declared.rounds.RoundRecord.{RoundRecord}
use Rattle.run_report.specs.declared.record.RunRecord.{RunRecord}
use Rattle.run_report.specs.Counts.{accepted_count, edits_in, summary_of}
use Rattle.run_report.specs.EventTexts.{event_line}
use Rattle.run_report.specs.PacketTexts.{packet_line}
use Rattle.run_report.specs.Reports.{numbered_line, counter_lines}
use Rattle.lawful_runs.specs.declared.loaded.LoadedJob.{LoadedJob}
use Rattle.lawful_runs.specs.Given.{Arrival, GivenRound, given_rounds}
use Rattle.lawful_runs.specs.Points.{seen_by}
use Rattle.lawful_runs.specs.Outcomes.{IsWalked}
use Rattle.lawful_runs.specs.Events.{AreInOrder, IsLineOf, IsResult}
use Rattle.lawful_runs.specs.Lawful.{outcomes_in, counters_of}
use Rattle.report_laws.specs.Begun.{AreBegun}

-- HOW FAR A REPORT HAS COME: before its first line; before a round, behind earlier rounds and their journal;
-- in a round, with what it has told so far and the edits that it has accepted; behind all rounds, with the
-- lines left.
pub data Stand : Type 0 where
  start : Stand
  opening : (its : List RoundRecord) (journal : List Edit) → Stand
  inside : (its : List RoundRecord) (before : List Edit) (it : RoundRecord) (edits : List Edit) → Stand
  closing : (run : RunRecord) (journal : List Edit) (left : List (List ℕ)) → Stand

-- ---- the parts of a round so far
-- nothing of the round is told
abbrev pub no_round : RoundRecord
no_round = record { events = []; outcomes = [] }

abbrev pub with_event : RoundRecord → Event → RoundRecord
with_event it event = record it { events = it.events ++ (event ∷ []) }

abbrev pub with_outcome : RoundRecord → Outcome → RoundRecord
with_outcome it outcome = record it { outcomes = it.outcomes ++ (outcome ∷ []) }

-- ---- behind the rounds
-- a run's counters follow from its rounds and its journal
abbrev pub run_of : List RoundRecord → List Edit → RunRecord
run_of its journal = record { rounds = its; counters = counters_of journal its }

-- its lines behind those of the rounds
abbrev pub last_lines : RunRecord → List (List ℕ)
last_lines run = counter_lines run.counters ++ (summary_line (summary_of run.rounds) ∷ codes "end\n" ∷ [])

-- behind a whole round, or before the first one: before the next round, where there is one
abbrev pub settled_at : Option GivenRound → List RoundRecord → List Edit → Stand
settled_at None its journal = closing (run_of its journal) journal (last_lines (run_of its journal))
settled_at (Some round) its journal = opening its journal

abbrev pub settled : LoadedJob → List RoundRecord → List Edit → Stand
settled loaded its journal = settled_at (slice_get (given_rounds loaded) (length its)) its journal

-- ---- the lines in a round
-- an event's line: the next command of its control, with its result on the state so far. No packet was told
-- before it.
pub record IsNextEvent (round : GivenRound) (before : List Edit) (it : RoundRecord) (edits : List Edit)
    (event : Event) (own : List Edit) : Type 0 where
  pub words : List (List ℕ)
  pub after : State
  pub unwalked : it.outcomes ≡ []
  pub order : AreBegun round.batches (it.events ++ (event ∷ []))
  pub line : IsLineOf round.batches event words
  pub result : IsResult (state_from no_state (before ++ edits)) words event.kind after own

-- a packet's line: all events are told, and it is the next packet's walk, by a worker whose head is no older
-- than what that worker has seen
pub record IsNextOutcome (workers : ℕ) (round : GivenRound) (its : List RoundRecord) (before : List Edit)
    (it : RoundRecord) (edits : List Edit) (outcome : Outcome) : Type 0 where
  pub arrival : Arrival
  pub all : AreInOrder round.batches it.events
  pub there : slice_get round.arrivals (length it.outcomes) ≡ Some arrival
  pub least : 1 ≤ outcome.worker
  pub most : outcome.worker ≤ workers
  pub walked : IsWalked (before ++ edits)
      (max (length before) (seen_by outcome.worker (outcomes_in its ++ it.outcomes)))
      (length (before ++ edits)) arrival outcome

-- the round's last line: all events and all packets are told
pub record IsWhole (round : GivenRound) (it : RoundRecord) : Type 0 where
  pub all : AreInOrder round.batches it.events
  pub each : length it.outcomes ≡ length round.arrivals

-- ---- what each line leads to
pub record TakesEvent (round : GivenRound) (its : List RoundRecord) (before : List Edit) (it : RoundRecord)
    (edits : List Edit) (line : List ℕ) (next : Stand) : Type 0 where
  pub event : Event
  pub own : List Edit
  pub is_next : IsNextEvent round before it edits event own
  pub text : line ≡ event_line (edits_in its + accepted_count it.events) event
  pub then : next ≡ inside its before (with_event it event) (edits ++ own)

pub record TakesPacket (loaded : LoadedJob) (round : GivenRound) (its : List RoundRecord) (before : List Edit)
    (it : RoundRecord) (edits : List Edit) (line : List ℕ) (next : Stand) : Type 0 where
  pub outcome : Outcome
  pub is_next : IsNextOutcome loaded.job.workers round its before it edits outcome
  pub text : line ≡ packet_line (1 + length it.outcomes) outcome
  pub then : next ≡ inside its before (with_outcome it outcome) edits

pub record TakesEnd (loaded : LoadedJob) (round : GivenRound) (its : List RoundRecord) (before : List Edit)
    (it : RoundRecord) (edits : List Edit) (line : List ℕ) (next : Stand) : Type 0 where
  pub whole : IsWhole round it
  pub text : line ≡ numbered_line (codes "end round ") (length its + 1)
  pub then : next ≡ settled loaded (its ++ (it ∷ [])) (before ++ edits)

-- a line in a round is one of these three
abbrev pub TakesIn : LoadedJob → GivenRound → List RoundRecord → List Edit → RoundRecord → List Edit → List ℕ
    → Stand → Type 0
TakesIn loaded round its before it edits line next =
    TakesEvent round its before it edits line next
    ⊎ (TakesPacket loaded round its before it edits line next
    ⊎ TakesEnd loaded round its before it edits line next)

-- ---- ONE LINE: which line may come next, and where the report then stands
abbrev pub Takes : LoadedJob → Stand → List ℕ → Stand → Type 0
Takes loaded start line next = (line ≡ codes "clsact report 1\n") × (next ≡ settled loaded [] [])
Takes loaded (opening its journal) line next =
    (line ≡ numbered_line (codes "round ") (length its + 1)) × (next ≡ inside its journal no_round [])
Takes loaded (inside its before it edits) line next =
    (round : GivenRound) × (slice_get (given_rounds loaded) (length its) ≡ Some round)
    × TakesIn loaded round its before it edits line next
Takes loaded (closing run journal []) line next = ⊥
Takes loaded (closing run journal (first ∷ left)) line next =
    (line ≡ first) × (next ≡ closing run journal left)

-- LINES ONE AFTER THE OTHER, from a stand to a stand
abbrev pub IsPath : LoadedJob → Stand → List (List ℕ) → Stand → Type 0
IsPath loaded stand [] end = end ≡ stand
IsPath loaded stand (line ∷ lines) end =
    (next : Stand) × Takes loaded stand line next × IsPath loaded next lines end

-- how many edits were accepted so far
abbrev pub journal_length : Stand → ℕ
journal_length start = 0
journal_length (opening its journal) = length journal
journal_length (inside its before it edits) = length (before ++ edits)
journal_length (closing run journal left) = length journal
