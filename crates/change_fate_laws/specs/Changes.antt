-- A change that is applied behind a batch (this project's own).
use Rattle.std.specs.Prelude.{ℕ, Bool, false, List, [], ◌∷◌, ◌++◌, length}
use Rattle.filter_state.specs.declared.edit.Edit.{Edit}
use Rattle.filter_state.specs.States.{State, no_state}
use Rattle.filter_state.specs.Journals.{state_at, state_from}
use Rattle.batch_run.specs.Commands.{Command}
use Rattle.run_report.specs.declared.events.Event.{Event}
use Rattle.lawful_runs.specs.Given.{GivenBatch}
use Rattle.lawful_runs.specs.Events.{AreInOrder, AreResults}

-- what one control applies, forced or not
abbrev pub given_by : Bool → List Command → List GivenBatch
given_by force commands = record { control = 1; force = force; commands = commands } ∷ []

-- what became of the lines of the batch, and of those of the change, with the edits that they came to
pub record Changed : Type 0 where
  pub opening : List Event
  pub before : List Edit
  pub events : List Event
  pub edits : List Edit

-- THE CHANGE OF A BATCH: the batch is applied up to its first refused line, and then the change, which goes on
-- behind a refused line where it is forced
pub record IsChanged (batch change : List Command) (force : Bool) (it : Changed) : Type 0 where
  pub opened : AreInOrder (given_by false batch) it.opening
  pub opens : AreResults (given_by false batch) no_state it.opening it.before
  pub order : AreInOrder (given_by force change) it.events
  pub results : AreResults (given_by force change) (state_from no_state it.before) it.events it.edits

-- its journal: the edits of both
abbrev pub journal_of : Changed → List Edit
journal_of it = it.before ++ it.edits

-- the points at which it begins and ends, and the states from point to point
abbrev pub first_point : Changed → ℕ
first_point it = length it.before

abbrev pub last_point : Changed → ℕ
last_point it = length (journal_of it)

abbrev pub states_of : Changed → ℕ → State
states_of it = λ point. state_at point (journal_of it)
