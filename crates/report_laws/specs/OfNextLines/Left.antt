-- What the controls of a round have left to do (this project's own).
use Rattle.std.specs.Prelude.{◌≡◌, ◌||◌, Bool, List, [], ◌∷◌, ◌++◌, Option, Some, None, if◌then◌else◌}
use Rattle.filter_state.specs.declared.edit.Edit.{Edit}
use Rattle.filter_state.specs.States.{State, no_state}
use Rattle.filter_state.specs.Journals.{state_from}
use Rattle.batch_run.specs.Commands.{Command}
use Rattle.run_report.specs.declared.events.Event.{Event}
use Rattle.run_report.specs.declared.rounds.RoundRecord.{RoundRecord}
use Rattle.run_report.specs.Counts.{is_accepted}
use Rattle.lawful_runs.specs.Given.{GivenBatch, GivenRound}
use Rattle.lawful_runs.specs.Events.{IsAmong, IsResult, events_of}

-- the command behind the events so far; none at the end, nor where the batch stopped
abbrev pub next_of : Bool → List Command → List Event → Option Command
next_of force [] events = None
next_of force (command ∷ commands) [] = Some command
next_of force (command ∷ commands) (event ∷ events) =
    if force || is_accepted event.kind then next_of force commands events else None

-- what the control of a batch does next, behind the events of a round
abbrev pub next_in : List Event → GivenBatch → Option Command
next_in events batch = next_of batch.force batch.commands (events_of batch.control events)

-- a control has a command left
pub record IsLeft (batches : List GivenBatch) (events : List Event) : Type 0 where
  pub batch : GivenBatch
  pub command : Command
  pub given : IsAmong batch batches
  pub next : next_in events batch ≡ Some command

-- none has
abbrev pub NoneLeft : List GivenBatch → List Event → Type 0
NoneLeft batches events = (batch : GivenBatch) → IsAmong batch batches → next_in events batch ≡ None

-- THE NEXT EVENT: a control's next command, with its result on the state so far
pub record IsNextOf (round : GivenRound) (before : List Edit) (it : RoundRecord) (edits : List Edit)
    (event : Event) (own : List Edit) : Type 0 where
  pub batch : GivenBatch
  pub command : Command
  pub after : State
  pub given : IsAmong batch round.batches
  pub next : next_in it.events batch ≡ Some command
  pub control : event.control ≡ batch.control
  pub line : event.line ≡ command.line
  pub result : IsResult (state_from no_state (before ++ edits)) command.words event.kind after own
