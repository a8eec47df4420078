-- What becomes of the command lines of a round (this project's own).
use Rattle.std.specs.Prelude.{◌≡◌, ℕ, ◌==◌, Bool, true, false, ◌||◌, List, [], ◌∷◌, ◌++◌, drop, filter}
use Rattle.std.specs.Prelude.{slice_get, Some, Ok, Err}
use Rattle.filter_state.specs.declared.edit.Edit.{Edit}
use Rattle.filter_state.specs.States.{State}
use Rattle.filter_state.specs.Steps.{step}
use Rattle.filter_state.specs.Journals.{state_at}
use Rattle.tc_batch.specs.Grammar.{Gives}
use Rattle.tc_batch.specs.FirstBad.{IsFirstBad}
use Rattle.batch_run.specs.Commands.{Command}
use Rattle.run_report.specs.declared.events.Event.{Event}
use Rattle.run_report.specs.declared.events.EventKind.{EventKind}
use Rattle.run_report.specs.declared.events.EventKind.TheVariants as kinds
use Rattle.run_report.specs.Counts.{is_accepted}
use Rattle.lawful_runs.specs.Given.{GivenBatch}

abbrev pub IsAmong : {X : Type 0} → X → List X → Type 0
IsAmong {X = X} x xs = (place : ℕ) × (slice_get xs place ≡ Some x)

-- ---- each control's lines in order
-- the events of a control
abbrev pub is_of : ℕ → Event → Bool
is_of control event = event.control == control

abbrev pub events_of : ℕ → List Event → List Event
events_of control events = filter (is_of control) events

-- a batch goes on after an accepted line, and where it is forced after any
abbrev pub GoesOn : Bool → Type 0 → List Event → Type 0
GoesOn true more events = more
GoesOn false more events = events ≡ []

-- these events are the commands of a batch, each once and in order, up to the last one or to the first at
-- which the batch stops
abbrev pub IsThrough : Bool → List Command → List Event → Type 0
IsThrough force [] events = events ≡ []
IsThrough force (command ∷ commands) [] = ⊥
IsThrough force (command ∷ commands) (event ∷ events) =
    (event.line ≡ command.line)
    × GoesOn (force || is_accepted event.kind) (IsThrough force commands events) events

-- so it is for each control that has a batch: their lines may lie between each other's in any way
abbrev pub AreInOrder : List GivenBatch → List Event → Type 0
AreInOrder batches events = (batch : GivenBatch) → IsAmong batch batches
    → IsThrough batch.force batch.commands (events_of batch.control events)

-- ---- each line has its result
-- the words of an event's line
pub record IsLineOf (batches : List GivenBatch) (event : Event) (words : List (List ℕ)) : Type 0 where
  pub batch : GivenBatch
  pub command : Command
  pub given : IsAmong batch batches
  pub control : batch.control ≡ event.control
  pub there : IsAmong command batch.commands
  pub line : command.line ≡ event.line
  pub words_are : words ≡ command.words

-- What the words come to on a state: the state after them, and the edits that they add to the journal, one or
-- none
abbrev pub IsResult : State → List (List ℕ) → EventKind → State → List Edit → Type 0
IsResult s words (kinds.Accepted done) next edits = (edit : Edit) × Gives words edit
    × (step s edit ≡ Ok (next, done)) × (edits ≡ edit ∷ [])
IsResult s words (kinds.Refused refusal) next edits = (edit : Edit) × Gives words edit
    × (step s edit ≡ Err refusal) × (next ≡ s) × (edits ≡ [])
IsResult s words (kinds.Syntax word) next edits = IsFirstBad words word × (next ≡ s) × (edits ≡ [])

-- THE EVENTS OF A ROUND on a state: each line is one of a batch and has its result on the state that the
-- events before it leave. The edits are those of the accepted ones, in order.
abbrev pub AreResults : List GivenBatch → State → List Event → List Edit → Type 0
AreResults batches s [] edits = edits ≡ []
AreResults batches s (event ∷ events) edits =
    (words : List (List ℕ)) × (next : State) × (first rest : List Edit)
    × IsLineOf batches event words × IsResult s words event.kind next first
    × AreResults batches next events rest × (edits ≡ first ++ rest)

-- ---- an event in the journal of a whole run
-- An event's line has its result on the state of a point of the journal, and what it adds to the journal
-- stands right behind that point
pub record IsMetAt (journal : List Edit) (point : ℕ) (batches : List GivenBatch)
    (event : Event) : Type 0 where
  pub words : List (List ℕ)
  pub next : State
  pub own : List Edit
  pub rest : List Edit
  pub line : IsLineOf batches event words
  pub result : IsResult (state_at point journal) words event.kind next own
  pub behind : drop point journal ≡ own ++ rest
