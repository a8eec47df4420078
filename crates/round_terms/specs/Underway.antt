-- A round that is under way (this project's own).
use Rattle.std.specs.Prelude.{◌≡◌, ℕ, ◌-◌, ◌≤◌, List, ◌++◌, length, drop, slice_get, Some}
use Rattle.filter_state.specs.declared.edit.Edit.{Edit}
use Rattle.filter_state.specs.States.{State, no_state}
use Rattle.filter_state.specs.Journals.{state_from}
use Rattle.batch_run.specs.declared.made_action.MadeAction.{MadeAction}
use Rattle.batch_run.specs.Commands.{commands_of}
use Rattle.run_report.specs.declared.events.Event.{Event}
use Rattle.run_report.specs.declared.events.EventKind.{EventKind}
use Rattle.lawful_runs.specs.Events.{events_of, AreResults, IsResult}
use Rattle.lawful_runs.specs.Lawful.{made_by}
use Rattle.round_terms.specs.declared.place.Place.{Place}
use Rattle.round_terms.specs.Files.{RoundFile, batches_of}
use Rattle.round_terms.specs.Places.{left_at}
use Rattle.round_terms.specs.Coming.{HasCome}

-- the place of a batch's control is how far its events have come
pub record IsPlaced (events : List Event) (places : List Place) (file : RoundFile) : Type 0 where
  pub place : Place
  pub there : slice_get places (file.control - 1) ≡ Some place
  pub within : place.at ≤ length file.bytes
  pub counted : place.line ≤ place.at
  pub come : HasCome file.force (commands_of file.bytes) (events_of file.control events)
      (left_at file.bytes place)

-- THE EVENTS SO FAR are an interleaving of what the controls have met, each has its result, and the journal
-- is the one before the round with the accepted edits behind it
pub record IsUnderway (files : List RoundFile) (controls : ℕ) (before journal : List Edit)
    (events : List Event) (places : List Place) : Type 0 where
  pub edits : List Edit
  pub journal_is : journal ≡ before ++ edits
  pub results : AreResults (batches_of files) (state_from no_state before) events edits
  pub placed : (at : ℕ) (file : RoundFile) → slice_get files at ≡ Some file → IsPlaced events places file
  pub many : length places ≡ controls

-- the actions that the edits behind a journal made
abbrev pub made_behind : List Edit → List Edit → List MadeAction
made_behind old new = made_by (state_from no_state old) (drop (length old) new)

-- the actions that the edits of a round made, which began at the first journal
abbrev pub IsMadeSince : List Edit → List Edit → List MadeAction → Type 0
IsMadeSince before journal made = made ≡ made_behind before journal

-- a line was met on a journal: it has its result on the state there, and the journal grows by its edit where
-- that is accepted
abbrev pub IsMet : List Edit → List Edit → List (List ℕ) → EventKind → Type 0
IsMet old new words kind = (next : State) × (own : List Edit)
    × IsResult (state_from no_state old) words kind next own × (new ≡ old ++ own)
