-- What a round leaves (this project's own).
use Rattle.std.specs.Prelude.{◌≡◌, ℕ, ◌-◌, ◌≤◌, ◌<◌, List, ◌++◌, length, slice_get, Option, Some}
use Rattle.std.specs.List.{flat_map}
use mathlib.Core.List.{IsPrefix}
use Rattle.tc_base.specs.declared.hook.Hook.{Hook}
use Rattle.tc_base.specs.declared.ear.EventName.{EventName}
use Rattle.pcap_io.specs.declared.capture.Packet.{Packet}
use Rattle.pin_store.specs.Calls.{IsSeatAt, IsOutside}
use Rattle.filter_state.specs.declared.edit.Edit.{Edit}
use Rattle.run_report.specs.declared.outcomes.Outcome.{Outcome}
use Rattle.run_report.specs.declared.rounds.RoundRecord.{RoundRecord}
use Rattle.step_counts.specs.Claims.{HasEachBelow}
use Rattle.lawful_runs.specs.Given.{Arrival, GivenRound, given_rounds}
use Rattle.lawful_runs.specs.Lawful.{IsRound}
use Rattle.lawful_runs.specs.OfLogs.Logs.{LogRow, ArePlaced, ArePointsTo}
use Rattle.round_terms.specs.LoadedJob.{LoadedJob}
use Rattle.round_terms.specs.Files.{files_of}
use Rattle.round_terms.specs.Hearing.{EarView, HasHeard}
use Rattle.round_terms.specs.Underway.{IsMadeSince}
use Rattle.worker_rounds.specs.OfLogs.Rows.{numbers_of}
use Rattle.worker_rounds.specs.OfWalks.Walked.{journal_of}
use Rattle.worker_rounds.specs.declared.worker.Worker.{Worker}
use Rattle.worker_rounds.specs.Worked.{arrivals_of, IsWorked}
use Rattle.job_rounds.specs.OfRoundState.Views.{journal}
use Rattle.job_rounds.specs.OfRoundState.Rounds.{StoreName, IsDeskOf}
use Rattle.job_rounds.specs.declared.one_round.round_end.RoundEnd.{RoundEnd}
use Rattle.job_rounds.specs.OfOneRound.Rounds.{AreEvents}

-- ---- workers
-- THE WORKER AT A PLACE before the round and behind it: it is the same one, with the rows of its walks. What
-- its reader has seen begins the journal.
pub record IsWorkedAt (store : StoreName) (hook : Hook) (packets : List Packet) (journal : List Edit)
    (first last : List Worker) (logs : List (List LogRow)) (at : ℕ) : Type 0 where
  pub worker : Worker
  pub now : Worker
  pub rows : List LogRow
  pub was_there : slice_get first at ≡ Some worker
  pub is_there : slice_get last at ≡ Some now
  pub log : slice_get logs at ≡ Some rows
  pub number : now.number ≡ worker.number
  pub own : IsSeatAt store.table store.shape now.reader.place
  pub outside : IsOutside now.reader.place
  pub worked : IsWorked worker.number (arrivals_of hook packets) worker.reader now.reader rows
  pub met : IsPrefix (journal_of now.reader) journal

-- THE WORKERS HAVE WALKED all packets: each packet has one row among the logs, and its outcome is that row's
pub record HaveWalked (store : StoreName) (hook : Hook) (packets : List Packet) (journal : List Edit)
    (first last : List Worker) (outcomes : List Outcome) : Type 0 where
  pub logs : List (List LogRow)
  pub many_logs : length logs ≡ length first
  pub many_last : length last ≡ length first
  pub each : (at : ℕ) → at < length first → IsWorkedAt store hook packets journal first last logs at
  pub each_once : HasEachBelow (length packets) (flat_map numbers_of logs)
  pub placed : ArePlaced logs outcomes
  pub many : length outcomes ≡ length packets

-- ---- the round's record
-- the workers have seen so many edits, and all points of their earlier outcomes
abbrev pub HaveSeen : ℕ → List Outcome → List Worker → Type 0
HaveSeen before earlier workers = (at : ℕ) (worker : Worker) → slice_get workers at ≡ Some worker
    → (before ≤ worker.reader.latest)
    × ((place : ℕ) (outcome : Outcome) → slice_get earlier place ≡ Some outcome
    → outcome.worker ≡ worker.number → ArePointsTo worker.reader.latest outcome.points)

-- A LAWFUL ROUND of the job behind a journal, whatever walks came earlier, where the workers had seen what
-- they have to have seen
abbrev pub IsLawfulRound : LoadedJob → ℕ → List Arrival → (before journal : List Edit) → List Worker
    → RoundRecord → Type 0
IsLawfulRound job number arrivals before journal workers it = (given : GivenRound) (earlier : List Outcome)
    → slice_get (given_rounds job) (number - 1) ≡ Some given → given.arrivals ≡ arrivals
    → HaveSeen (length before) earlier workers
    → (edits : List Edit) × (journal ≡ before ++ edits)
    × IsRound (length workers) given before earlier it edits

-- WHAT A ROUND LEAVES, from the desk's journal, the ear and the workers as they were
pub record IsRoundEnd {E : Type 0} (name : E → ℕ) (heard : E → Option (List EventName)) (spare : E → ℕ)
    (store : StoreName) (job : LoadedJob) (number : ℕ) (hook : Hook) (packets : List Packet)
    (before : List Edit) (ear : EarView) (first : List Worker) (end : RoundEnd E) : Type 0 where
  pub desk : IsDeskOf store end.desk
  pub events : AreEvents (files_of job number) before (journal end.desk) end.round.events
  pub made : IsMadeSince before (journal end.desk) end.made.items
  pub hears : HasHeard name heard spare ear end.ear number (length before) end.round.events
  pub walked : HaveWalked store hook packets (journal end.desk) first end.workers.items end.round.outcomes
  pub lawful : IsLawfulRound job number (arrivals_of hook packets) before (journal end.desk) first end.round
