-- A round of a report whose events are told, while its packets are (this project's own).
use Rattle.std.specs.Prelude.{◌≡◌, ℕ, List, ◌++◌, length, map, slice_get, Some}
use Rattle.tc_base.specs.declared.hook.Hook.{Hook}
use Rattle.pcap_io.specs.declared.capture.Packet.{Packet}
use Rattle.filter_state.specs.declared.edit.Edit.{Edit}
use Rattle.run_report.specs.declared.events.Event.{Event}
use Rattle.run_report.specs.declared.outcomes.Outcome.{Outcome}
use Rattle.run_report.specs.declared.rounds.RoundRecord.{RoundRecord}
use Rattle.lawful_runs.specs.declared.loaded.LoadedJob.{LoadedJob}
use Rattle.lawful_runs.specs.Given.{Arrival, GivenRound, IsLoaded, given_rounds}
use Rattle.lawful_runs.specs.Events.{AreInOrder}
use Rattle.lawful_runs.specs.Lawful.{outcomes_in}
use Rattle.report_laws.specs.Stands.{Stand, inside}
use Rattle.report_laws.specs.OfNextLines.Left.{NoneLeft}
use Rattle.report_check.specs.declared.events.cursor.Cursor.{Cursor}
use Rattle.journal_replay.specs.declared.replay.Replay.{Replay}
use Rattle.report_check.specs.OfEvents.Cursors.{IsAt}
use Rattle.journal_replay.specs.Replays.{IsKept}
use Rattle.report_check.specs.declared.walkers.Walkers.{Walkers}
use Rattle.report_check.specs.Walked.{AreWalkers}

-- a round of a job behind others and their edits, with its events and the edits that these accepted
pub record ToldRound : Type 0 where
  pub loaded : LoadedJob
  pub its : List RoundRecord
  pub round : GivenRound
  pub before : List Edit
  pub events : List Event
  pub edits : List Edit

abbrev pub journal_of : ToldRound → List Edit
journal_of told = told.before ++ told.edits

-- with these packets told as well
abbrev pub record_with : ToldRound → List Outcome → RoundRecord
record_with told outcomes = record { events = told.events; outcomes = outcomes }

abbrev pub stand_with : ToldRound → List Outcome → Stand
stand_with told outcomes = inside told.its told.before (record_with told outcomes) told.edits

-- ALL ITS EVENTS are told, and the replay is behind them
pub record IsToldRound (told : ToldRound) (replay : Replay) : Type 0 where
  pub is_loaded : IsLoaded told.loaded
  pub there : slice_get (given_rounds told.loaded) (length told.its) ≡ Some told.round
  pub none : NoneLeft told.round.batches told.events
  pub order : AreInOrder told.round.batches told.events
  pub kept : IsKept replay
  pub journal_is : replay.journal.items ≡ journal_of told

-- SO MANY OF ITS PACKETS are told, and the walkers are behind them
pub record AreWalked (told : ToldRound) (bytes : List ℕ) (cursor : Cursor) (walkers : Walkers) (place : ℕ)
    : Type 0 where
  pub outcomes : List Outcome
  pub is_at : IsAt told.loaded bytes cursor (stand_with told outcomes)
  pub place_is : length outcomes ≡ place
  pub are : AreWalkers told.loaded.job.workers (journal_of told) (outcomes_in told.its ++ outcomes) walkers

-- the next packet of the round is of that frame, and comes at that hook
pub record IsPacket (told : ToldRound) (place : ℕ) (hook : Hook) (frame : List ℕ) : Type 0 where
  pub arrival : Arrival
  pub there : slice_get told.round.arrivals place ≡ Some arrival
  pub hook_is : arrival.hook ≡ hook
  pub frame_is : arrival.packet.bytes ≡ frame

-- THE NEXT PACKET of a round, before which so many edits were accepted
pub record IsNextPacket (told : ToldRound) (bytes : List ℕ) (cursor : Cursor) (replay : Replay)
    (walkers : Walkers) (before place : ℕ) (hook : Hook) (frame : List ℕ) : Type 0 where
  pub of : IsToldRound told replay
  pub walked : AreWalked told bytes cursor walkers place
  pub packet : IsPacket told place hook frame
  pub before_is : before ≡ length told.before

-- the packets of a round begin, all of which come at one hook
pub record IsAtPackets (told : ToldRound) (bytes : List ℕ) (cursor : Cursor) (replay : Replay)
    (walkers : Walkers) (before : ℕ) (hook : Hook) (packets : List Packet) : Type 0 where
  pub of : IsToldRound told replay
  pub walked : AreWalked told bytes cursor walkers 0
  pub arrivals : told.round.arrivals ≡ map (λ (p : Packet). record { hook = hook; packet = p }) packets
  pub before_is : before ≡ length told.before
