-- What is known of a journal behind its edits (this project's own).
use Rattle.std.specs.Prelude.{◌≡◌, List, [], ◌∷◌, ◌++◌, Ok}
use Rattle.filter_state.specs.declared.edit.Edit.{Edit}
use Rattle.filter_state.specs.declared.refusal.Done.{Done}
use Rattle.filter_state.specs.States.{State, no_state}
use Rattle.filter_state.specs.Steps.{step}
use Rattle.filter_state.specs.Journals.{state_from}
use Rattle.filter_lists.specs.Spells.{Spells}
use Rattle.lawful_runs.specs.Lawful.{made_by}
use Rattle.state_past.specs.Remembering.{Remembers}
use Rattle.journal_replay.specs.declared.replay.Replay.{Replay}

-- the past, the lists and the names of actions are those of the journal
pub record IsKept (replay : Replay) : Type 0 where
  pub remembers : Remembers replay.past replay.journal.items
  pub spells : Spells replay.lists (state_from no_state replay.journal.items)
  pub made_is : replay.made.items ≡ made_by no_state replay.journal.items

-- an edit was accepted behind a journal, with that answer
abbrev pub IsAccepted : List Edit → List Edit → Edit → Done → Type 0
IsAccepted old new edit done = (next : State)
    × (step (state_from no_state old) edit ≡ Ok (next, done)) × (new ≡ old ++ (edit ∷ []))
