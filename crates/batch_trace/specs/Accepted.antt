-- THE ACCEPTED EDITS OF A BATCH, each with its line (this project's own). A batch goes up to its first command
-- that is refused.
use Rattle.std.specs.Prelude.{◌≡◌, ℕ, ◌⊎◌, List, [], ◌∷◌, Ok, Err}
use Rattle.filter_state.specs.declared.edit.Edit.{Edit}
use Rattle.filter_state.specs.States.{State, no_state}
use Rattle.filter_state.specs.Steps.{Stepped, step}
use Rattle.tc_batch.specs.Grammar.{Gives}
use Rattle.tc_batch.specs.FirstBad.{IsFirstBad}
use Rattle.batch_run.specs.Commands.{Command}
use Rattle.filter_origins.specs.Entries.{Entry}

-- a batch alone is that of control 1
abbrev pub entry_of : ℕ → Edit → Entry
entry_of line edit = record { control = 1; line = line; edit = edit }

-- an accepted edit is the first, and behind it come those of the commands behind; a refused one ends them
abbrev pub AreBehind : (State → List Entry → Type 0) → ℕ → Edit → Stepped → List Entry → Type 0
AreBehind more line edit (Ok (next, done)) entries =
    (rest : List Entry) × (entries ≡ entry_of line edit ∷ rest) × more next rest
AreBehind more line edit (Err refusal) entries = entries ≡ []

-- each command gives an edit, which is applied, or has a first bad word, which ends them
abbrev pub AreAcceptedFrom : State → List Command → List Entry → Type 0
AreAcceptedFrom s [] entries = entries ≡ []
AreAcceptedFrom s (command ∷ commands) entries =
    ((edit : Edit) × Gives command.words edit
    × AreBehind (λ next rest. AreAcceptedFrom next commands rest) command.line edit (step s edit) entries)
    ⊎ ((word : ℕ) × IsFirstBad command.words word × (entries ≡ []))

abbrev pub AreAccepted : List Command → List Entry → Type 0
AreAccepted commands entries = AreAcceptedFrom no_state commands entries
