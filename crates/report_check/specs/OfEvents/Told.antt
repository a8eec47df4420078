-- A round of a report while its events are told (this project's own). Rounds are counted from 1.
use Rattle.std.specs.Prelude.{◌≡◌, ℕ, ◌+◌, ◌≤◌, List, [], ◌++◌, length, slice_get, Some}
use Rattle.filter_state.specs.declared.edit.Edit.{Edit}
use Rattle.run_report.specs.declared.rounds.RoundRecord.{RoundRecord}
use Rattle.run_report.specs.Counts.{accepted_count, edits_in}
use Rattle.lawful_runs.specs.declared.loaded.LoadedJob.{LoadedJob}
use Rattle.lawful_runs.specs.Given.{GivenRound, IsLoaded, given_rounds}
use Rattle.lawful_runs.specs.Events.{AreInOrder}
use Rattle.round_terms.specs.declared.place.Place.{Place}
use Rattle.round_terms.specs.Files.{files_of}
use Rattle.round_terms.specs.Underway.{IsUnderway}
use Rattle.report_laws.specs.Stands.{no_round, inside}
use Rattle.report_laws.specs.OfNextLines.Left.{NoneLeft}
use Rattle.report_check.specs.declared.events.cursor.Cursor.{Cursor}
use Rattle.journal_replay.specs.declared.replay.Replay.{Replay}
use Rattle.report_check.specs.declared.events.events.NamedLine.{NamedLine}
use Rattle.report_check.specs.OfEvents.Cursors.{IsAt}
use Rattle.report_check.specs.OfEvents.Lines.{IsNamed}
use Rattle.journal_replay.specs.Placed.{places_of}
use Rattle.journal_replay.specs.Replays.{IsKept}

-- the round of that number is the job's next one behind these
pub record IsRoundAt (loaded : LoadedJob) (number : ℕ) (its : List RoundRecord) (round : GivenRound)
    (before : List Edit) : Type 0 where
  pub there : slice_get (given_rounds loaded) (length its) ≡ Some round
  pub number_is : number ≡ length its + 1
  pub edits : edits_in its ≡ length before

-- THE ROUND BEGINS: nothing of it is told
pub record HasBegun (loaded : LoadedJob) (bytes : List ℕ) (number : ℕ) (its : List RoundRecord)
    (round : GivenRound) (cursor : Cursor) (replay : Replay) : Type 0 where
  pub of : IsRoundAt loaded number its round replay.journal.items
  pub is_at : IsAt loaded bytes cursor (inside its replay.journal.items no_round [])
  pub kept : IsKept replay
  pub fewer : replay.refused ≤ cursor.line

-- events are told of it, and no packet: this became of the journal and of the refused lines since it began
pub record AreTold (loaded : LoadedJob) (bytes : List ℕ) (its : List RoundRecord) (first : Replay)
    (cursor : Cursor) (replay : Replay) : Type 0 where
  pub it : RoundRecord
  pub edits : List Edit
  pub is_at : IsAt loaded bytes cursor (inside its first.journal.items it edits)
  pub unwalked : it.outcomes ≡ []
  pub kept : IsKept replay
  pub journal_is : replay.journal.items ≡ first.journal.items ++ edits
  pub placed : replay.places.items ≡ first.places.items ++ places_of it.events
  pub accepted : accepted_count it.events ≡ length edits
  pub refused : replay.refused + length edits ≡ first.refused + length it.events
  pub fewer : replay.refused ≤ cursor.line

-- THE EVENTS GO ON: the places of the controls are how far these have come
pub record GoOn (loaded : LoadedJob) (bytes : List ℕ) (number : ℕ) (its : List RoundRecord)
    (round : GivenRound) (first : Replay) (cursor : Cursor) (replay : Replay) (places : List Place)
    : Type 0 where
  pub of : IsRoundAt loaded number its round first.journal.items
  pub told : AreTold loaded bytes its first cursor replay
  pub under : IsUnderway (files_of loaded number) loaded.job.controls first.journal.items
      replay.journal.items told.it.events places

-- THE EVENTS ARE OVER: no control has a command left
pub record AreOver (loaded : LoadedJob) (bytes : List ℕ) (its : List RoundRecord) (round : GivenRound)
    (first : Replay) (cursor : Cursor) (replay : Replay) : Type 0 where
  pub told : AreTold loaded bytes its first cursor replay
  pub none : NoneLeft round.batches told.it.events
  pub order : AreInOrder round.batches told.it.events

-- A CONTROL'S TURN: the next line names it, and this is its next command
pub record IsTurn (loaded : LoadedJob) (bytes : List ℕ) (number : ℕ) (its : List RoundRecord)
    (round : GivenRound) (first : Replay) (cursor : Cursor) (replay : Replay) (places : List Place)
    (named : NamedLine) : Type 0 where
  pub is_loaded : IsLoaded loaded
  pub goes : GoOn loaded bytes number its round first cursor replay places
  pub names : IsNamed loaded bytes number cursor places named
